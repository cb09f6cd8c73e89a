use mathlib.Core.Path.{ap, ◌∙◌}
use Prim.Native.Nat.{ℕ}
use lib.ListN.{replicate}
use lib.Seq.{sets}
use Rattle.answers.specs.Conditions.{all}
use Rattle.answers.proofs.Conditions.{all_true}
use Rattle.sources.specs.Places.{empty_place}
use Rattle.sources.specs.Tallies.{no_tally}
use Rattle.lent.specs.FormWords.{form_of}
use Rattle.lent.specs.StreamWords.{each_line, place_in, tally_in, line_fits, are_fit, run_of}
use Rattle.lent.proofs.stream_words.run_in.Goals as goal

pub table_in-table-requires : goal.table_in-table-requires
table_in-table-requires c =
    let ws = c.args.lines.now in
    (c.requires.1, c.requires.2, ap (λ (n : ℕ). all (each_line line_fits n ws)) c.requires.0 ∙ all_true (are_fit c.args.words.now ws) 1 c.requires.3)

pub returns : goal.returns
unfolding run_of
returns c =
    let ws = c.args.lines.now in
    λ i. record {
      form = (c.form_of-form.ensures ∙ ap form_of c.word_at.ensures) i;
      length = c.word_at-length.ensures i;
      table = (c.table_in-table.ensures ∙ (λ j. record { places = sets (replicate 16 empty_place) 0 (each_line place_in (c.requires.0 j) ws); count = 16 })) i;
      tallies = (c.tallies_in-tallies.ensures ∙ ap (λ (n : ℕ). sets (replicate 16 no_tally) 0 (each_line tally_in n ws)) c.requires.0) i;
    }
