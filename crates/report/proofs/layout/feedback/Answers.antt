use borrow.Author.Rules.{rules}
use mathlib.Core.Path.{◌≡◌, refl, sym, ap, ap₂, ◌∙◌}
use native.Mathlib.Omega.{arith}
use Prim.Native.Nat.{ℕ}
use mathlib.Core.List.{[], ◌∷◌}
use lib.Seq.{sets}
use Rattle.answers.proofs.Stores.{wrote_short, wrote_all}
use Rattle.report.specs.Reports.{feedback_of, words_bytes}
use Rattle.report.proofs.Layouts.{feedback_words_lem, length-feedback}
use Rattle.report.proofs.layout.feedback.Goals as goal

pub returns-then-out-lt32 : goal.returns-then-out-lt32
returns-then-out-lt32 c =
    let a = c.args in
    wrote_short (feedback_of a.sender a.media a.highest a.c) a.out.now refl (omega (arith, length-feedback a.sender a.media a.highest a.c))
    (sym (length-feedback a.sender a.media a.highest a.c))

pub returns : goal.returns
returns c =
    let a = c.args in
    let bytes : words_bytes
    (0x88CD0007 ∷ a.sender ∷ a.media ∷ a.highest ∷ a.c.ect0 ∷ a.c.ect1 ∷ c.pair-marked.result ∷ c.pair-missed.result ∷ []) ≡ feedback_of a.sender a.media
    a.highest a.c =
    ap₂ (λ (x y : ℕ). words_bytes (0x88CD0007 ∷ a.sender ∷ a.media ∷ a.highest ∷ a.c.ect0 ∷ a.c.ect1 ∷ x ∷ y ∷ [])) c.pair-marked.ensures c.pair-missed.ensures
    ∙ sym (feedback_words_lem a.c (search rules) (search rules) a.sender a.media a.highest) in
    let size = length-feedback a.sender a.media a.highest a.c in
    wrote_all (feedback_of a.sender a.media a.highest a.c) a.out.now refl (omega arith) (sym size) (c.put_words.ensures ∙ ap (sets a.out.now 0) bytes)
