use borrow.Author.Rules.{rules}
use mathlib.Core.Path.{sym, ap, ◌∙◌}
use native.Mathlib.Omega.{arith}
use Rattle.numbers.proofs.Signed.{seen_is}
use Rattle.capi.specs.Feeds.{feed_code, feed_size}
use Rattle.capi.proofs.feeds.feed_code.Goals as goal

pub length-requires : goal.length-requires
length-requires c = omega (arith, ap feed_size c.in-Length.is, c.requires)

pub length-requires-in-Room : goal.length-requires-in-Room
length-requires-in-Room c = omega (arith, ap feed_size c.in-Room.is, c.requires)

pub faulty-requires : goal.faulty-requires
faulty-requires c = omega (arith, ap feed_size c.in-Faulty.is, c.requires)

pub returns-in-Length : goal.returns-in-Length
returns-in-Length c = seen_is c.length.result (search rules) ∙ c.length.ensures ∙ sym (ap feed_code c.in-Length.is)

pub returns-in-Room : goal.returns-in-Room
returns-in-Room c = seen_is c.length-in-Room.result (search rules) ∙ c.length-in-Room.ensures ∙ sym (ap feed_code c.in-Room.is)

pub returns-in-Refused : goal.returns-in-Refused
returns-in-Refused c = seen_is c.minus.result (search rules) ∙ c.minus.ensures ∙ sym (ap feed_code c.in-Refused.is)

pub returns-in-Faulty : goal.returns-in-Faulty
returns-in-Faulty c = seen_is c.faulty.result (search rules) ∙ c.faulty.ensures ∙ sym (ap feed_code c.in-Faulty.is)
