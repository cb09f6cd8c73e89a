use borrow.Author.Rules.{rules}
use mathlib.Core.Path.{sym, ◌∙◌}
use Rattle.numbers.proofs.Signed.{seen_is}
use Rattle.lent.specs.FeedWords.{feed_words}
use Rattle.lent.proofs.FeedLaws.{length-feed}
use Rattle.capi.proofs.Fronts.{sets-whole}
use Rattle.capi.proofs.feeds.put_fed.Goals as goal

pub returns : goal.returns
returns c =
    let next = c.args.fed.upload in
    record {
      answers = seen_is c.feed_code.result (search rules) ∙ c.feed_code.ensures;
      stores = c.store.ensures ∙ sets-whole c.args.words.now (feed_words next) (c.requires.0 ∙ sym (length-feed next));
    }
