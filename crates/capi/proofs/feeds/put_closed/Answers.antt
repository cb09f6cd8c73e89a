use mathlib.Core.Path.{sym, ◌∙◌}
use Rattle.lent.specs.FeedWords.{feed_words}
use Rattle.lent.proofs.FeedLaws.{length-feed}
use Rattle.capi.proofs.Fronts.{sets-whole}
use Rattle.capi.proofs.feeds.put_closed.Goals as goal

pub returns : goal.returns
returns c =
    let next = c.args.fed.upload in
    record {
      answers = c.close_code.ensures;
      stores = c.store.ensures ∙ sets-whole c.args.words.now (feed_words next) (c.requires ∙ sym (length-feed next));
    }
