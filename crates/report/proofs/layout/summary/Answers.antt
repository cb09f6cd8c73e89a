use borrow.Author.Rules.{rules}
use mathlib.Core.Path.{◌≡◌, refl, sym, ap, ap₂, ◌∙◌}
use native.Mathlib.Omega.{arith}
use Prim.Native.Nat.{ℕ}
use mathlib.Core.List.{[], ◌∷◌}
use lib.Seq.{sets}
use Rattle.answers.proofs.Stores.{wrote_short, wrote_all}
use Rattle.report.specs.Reports.{summary_of, words_bytes}
use Rattle.report.proofs.Layouts.{summary_words_lem, length-summary}
use Rattle.report.proofs.layout.summary.Goals as goal

pub returns-then-out-lt24 : goal.returns-then-out-lt24
returns-then-out-lt24 c =
    let a = c.args in
    wrote_short (summary_of a.media a.c) a.out.now refl (omega (arith, length-summary a.media a.c)) (sym (length-summary a.media a.c))

pub returns : goal.returns
returns c =
    let a = c.args in
    let bytes : words_bytes (0x0D000005 ∷ a.media ∷ a.c.ect0 ∷ a.c.ect1 ∷ c.pair-marked.result ∷ c.pair-missed.result ∷ []) ≡ summary_of a.media a.c =
    ap₂ (λ (x y : ℕ). words_bytes (0x0D000005 ∷ a.media ∷ a.c.ect0 ∷ a.c.ect1 ∷ x ∷ y ∷ [])) c.pair-marked.ensures c.pair-missed.ensures
    ∙ sym (summary_words_lem a.c (search rules) (search rules) a.media) in
    let size = length-summary a.media a.c in
    wrote_all (summary_of a.media a.c) a.out.now refl (omega arith) (sym size) (c.put_words.ensures ∙ ap (sets a.out.now 0) bytes)
