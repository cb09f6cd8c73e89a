use mathlib.Core.Path.{◌≡◌, sym, ap, ◌∙◌}
use mathlib.Core.Bool.{true, false, and-true}
use Prim.Native.Nat.{ℕ}
use borrow.Author.Tests.{eq-eqb, ne_eqb}
use lib.Dec.{eqb}
use Rattle.answers.proofs.Conditions.{all_false, and_goes}
use Rattle.lent.specs.KeptWords.{zeros}
use Rattle.lent.proofs.kept_words.are_zero.Goals as goal

not_zero : {r n : ℕ} → r ≡ n → (r ≡ 0 → ⊥) → eqb n 0 ≡ false
not_zero {r} e h = ap (λ (k : ℕ). eqb k 0) (sym e) ∙ ne_eqb r 0 h

is_zero : {r n : ℕ} → r ≡ n → r ≡ 0 → eqb n 0 ≡ true
is_zero {r} e h = ap (λ (k : ℕ). eqb k 0) (sym e) ∙ eq-eqb r 0 h

pub returns-then-word_at-ne0 : goal.returns-then-word_at-ne0
returns-then-word_at-ne0 c = all_false (zeros c.args.words.now) 0 (not_zero c.word_at.ensures c.if-word_at-ne0.true)

pub returns-then-word_at-ne0-2 : goal.returns-then-word_at-ne0-2
returns-then-word_at-ne0-2 c = all_false (zeros c.args.words.now) 1 (not_zero c.word_at-2.ensures c.if-word_at-ne0-2.true)

pub returns-then-word_at-ne0-3 : goal.returns-then-word_at-ne0-3
returns-then-word_at-ne0-3 c = all_false (zeros c.args.words.now) 2 (not_zero c.word_at-3.ensures c.if-word_at-ne0-3.true)

pub returns : goal.returns
returns c =
    and_goes _ _ _ (is_zero c.word_at.ensures c.if-word_at-ne0.false)
    (and_goes _ _ _ (is_zero c.word_at-2.ensures c.if-word_at-ne0-2.false)
    (and_goes _ _ _ (is_zero c.word_at-3.ensures c.if-word_at-ne0-3.false)
    (ap (λ (k : ℕ). eqb k 0) c.word_at-4.ensures ∙ sym (and-true _))))
