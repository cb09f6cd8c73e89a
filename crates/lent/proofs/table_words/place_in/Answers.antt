use mathlib.Core.Path.{ap, ◌∙◌}
use Prim.Native.Nat.{◌-◌, ◌%◌, ◌^◌}
use native.Mathlib.Omega.{arith}
use lib.ListN.{length, get_or, drop, length-drop}
use lib.Seq.{take_all}
use Rattle.lent.specs.SourceWords.{source_near}
use Rattle.lent.proofs.table_words.place_in.Goals as goal

pub returns : goal.returns
returns c =
    let words = c.args.words.now in
    let rest = take_all (length words - 1) (drop 1 words) (omega (arith, length-drop 1 words)) in
    λ i. record { ssrc = get_or words 0 0 % 2 ^ 32; source = (c.read.ensures ∙ ap source_near rest) i }
