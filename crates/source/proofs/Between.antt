-- The counters grow by what came between. Assumes nothing.
use mathlib.Core.Path.{◌≡◌, refl, sym, ap, ap₂, ◌∙◌}
use mathlib.Core.Bool.{Bool, true, false, cond, ◌&&◌}
use mathlib.Core.List.{List, [], ◌∷◌}
use Prim.Native.Nat.{ℕ, ◌+◌, ◌≤◌}
use native.Mathlib.Omega.{arith}
use lib.IntN.{ℤ, pos, neg_ℤ, ◌+ℤ◌, ◌-ℤ◌, neg_ℤ-+ℤ, +ℤ_assoc, +ℤ_comm}
use Rattle.numbers.proofs.Integers.{exchange, less_more}
use Rattle.source.specs.declared.Extended.{Extended}
use Rattle.source.specs.declared.Source.{Source}
use Rattle.source.specs.declared.BlockCount.TheVariants.{Counted}
use Rattle.source.specs.Places.{bit}
use Rattle.source.specs.Record.{arrivals, distinct, fresh, lost}
use Rattle.source.specs.Arrivals.{after}
use Rattle.source.specs.Blocks.{Packet, jump, restart, count_all}
use Rattle.source.specs.Between.{Leads, accepted, came, with_mark, arrived_before, is_new, expected, GrowsByBetween}
use Rattle.source.proofs.Facts.{fresh_none}
use Rattle.source.proofs.OneCall.{call, raised}

-- ---- along the calls

restarts_rise : (ps : List Packet) (s : Source) (jumps restarts : ℕ) {t : Source} {j r : ℕ} → count_all ps s jumps restarts ≡ Counted t j r → restarts ≤ r
unfolding count_all
restarts_rise [] s jumps restarts {r = r} e = let same : restarts ≡ r = cc in omega arith
restarts_rise (p ∷ ps) s jumps restarts e = omega (arith, restarts_rise ps (after (call s p)) (jumps + jump (call s p)) (restarts + restart (call s p)) e)

-- what holds at the end and, with no restart, before each call where it holds after it
module _ (t : Source) (R : List Packet → Source → Type 0) (none : R [] t)
    (one : (p : Packet) (ps : List Packet) (s : Source) → restart (call s p) ≡ 0 → R ps (after (call s p)) → R (p ∷ ps) s) where
  along : (ps : List Packet) (s : Source) (jumps restarts : ℕ) {j : ℕ} → count_all ps s jumps restarts ≡ Counted t j restarts → R ps s
  unfolding count_all
  along [] s jumps restarts e = let same : s ≡ t = cc in rw same none
  along (p ∷ ps) s jumps restarts {j} e =
      let none : restart (call s p) ≡ 0 = omega (arith, restarts_rise ps (after (call s p)) (jumps + jump (call s p)) (restarts + restart (call s p)) e) in
      let still : restarts + restart (call s p) ≡ restarts = omega arith in
      one p ps s none
      (along ps (after (call s p)) (jumps + jump (call s p)) (restarts + restart (call s p)) (e ∙ ap (λ (r : ℕ). Counted t j r) (sym still)))

-- ---- differences

-- the same added to both, and taken off both
both : (x y c : ℤ) → x +ℤ c -ℤ (y +ℤ c) ≡ x -ℤ y
both x y c = exchange x c (neg_ℤ (y +ℤ c)) ∙ less_more x y c

less_both : (x y d n : ℤ) → x -ℤ (d +ℤ n) -ℤ (y -ℤ d) ≡ x -ℤ y -ℤ n
less_both x y d n =
    ap (λ (z : ℤ). x +ℤ z -ℤ (y -ℤ d)) (neg_ℤ-+ℤ d n ∙ +ℤ_comm (neg_ℤ d) (neg_ℤ n))
    ∙ ap (λ (z : ℤ). z -ℤ (y -ℤ d)) (sym (+ℤ_assoc x (neg_ℤ n) (neg_ℤ d)))
    ∙ both (x -ℤ n) y (neg_ℤ d) ∙ exchange x (neg_ℤ n) (neg_ℤ y)

-- ---- expected and lost

module _ (s : Source) where
  expected_is_lem : 1 ≤ arrivals s → expected s ≡ s.highest.0 -ℤ s.base.0 +ℤ pos 1
  unfolding expected
  expected_is_lem some = go (fresh s) refl
    where
      go : (b : Bool) → fresh s ≡ b → cond b (pos 0) (s.highest.0 -ℤ s.base.0 +ℤ pos 1) ≡ s.highest.0 -ℤ s.base.0 +ℤ pos 1
      go true f = absurd (omega (arith, fresh_none s f))
      go false f = refl

  -- lost is what is expected less the distinct arrivals
  lost_is_lem : lost s ≡ expected s -ℤ pos (distinct s)
  unfolding lost expected
  lost_is_lem = go (fresh s) refl
    where
      go : (b : Bool) → fresh s ≡ b
          → cond b (pos 0) (s.highest.0 -ℤ s.base.0 +ℤ pos 1 -ℤ pos (distinct s)) ≡ cond b (pos 0) (s.highest.0 -ℤ s.base.0 +ℤ pos 1) -ℤ pos (distinct s)
      go true f = let none : distinct s ≡ 0 = omega (arith, fresh_none s f) in ap (λ (n : ℕ). pos 0 -ℤ pos n) (sym none)
      go false f = refl

-- ---- all calls

module _ (s t : Source) (ps : List Packet) (l : Leads s ps t) where
  -- a counter that grows by the calls of a kind at each call does so over all
  grows : (value : Source → ℕ) (kind : Source → Packet → Bool)
      → ((s : Source) (p : Packet) → restart (call s p) ≡ 0 → value (after (call s p)) ≡ value s + bit (accepted (call s p) && kind s p))
      → value t ≡ value s + came kind s ps
  unfolding came
  grows value kind turn =
      along t (λ ps s. value t ≡ value s + came kind s ps) (omega arith)
      (λ p ps s none e. omega (arith, turn s p none))
      ps s 0 0 l.run

  -- what is counted stays counted, and so does the base
  stays : 1 ≤ arrivals s → (t.base ≡ s.base) × (1 ≤ arrivals t)
  stays =
      along t (λ ps s. 1 ≤ arrivals s → (t.base ≡ s.base) × (1 ≤ arrivals t)) (λ some. (refl, some))
      (λ p ps s none e some.
      let r = raised s p none in
      let rest = e (omega (arith, r.notect, r.ect1, r.ect0, r.ce)) in
      (rest.0 ∙ r.base some, rest.1))
      ps s 0 0 l.run

  lost_grows : lost t -ℤ lost s ≡ expected t -ℤ expected s -ℤ pos (came is_new s ps)
  lost_grows =
      let more : distinct t ≡ distinct s + came is_new s ps = grows distinct is_new (λ s p none. (raised s p none).distinct) in
      ap₂ ◌-ℤ◌ (lost_is_lem t ∙ ap (λ (n : ℕ). expected t -ℤ pos n) more) (lost_is_lem s)
      ∙ less_both (expected t) (expected s) (pos (distinct s)) (pos (came is_new s ps))

  expected_grows : 1 ≤ arrivals s → expected t -ℤ expected s ≡ t.highest.0 -ℤ s.highest.0
  expected_grows some =
      ap₂ ◌-ℤ◌ (expected_is_lem t (stays some).1 ∙ ap (λ (b : Extended). t.highest.0 -ℤ b.0 +ℤ pos 1) (stays some).0) (expected_is_lem s some)
      ∙ both (t.highest.0 -ℤ s.base.0) (s.highest.0 -ℤ s.base.0) (pos 1) ∙ both t.highest.0 s.highest.0 (neg_ℤ s.base.0)

pub grows_by_between : GrowsByBetween
grows_by_between s t ps l = record {
  notect = grows s t ps l (λ (u : Source). u.notect) (with_mark 0) (λ s p none. (raised s p none).notect);
  ect1 = grows s t ps l (λ (u : Source). u.ect1) (with_mark 1) (λ s p none. (raised s p none).ect1);
  ect0 = grows s t ps l (λ (u : Source). u.ect0) (with_mark 2) (λ s p none. (raised s p none).ect0);
  ce = grows s t ps l (λ (u : Source). u.ce) (with_mark 3) (λ s p none. (raised s p none).ce);
  duplicates = grows s t ps l (λ (u : Source). u.duplicates) arrived_before (λ s p none. (raised s p none).duplicates);
  lost = lost_grows s t ps l;
  base = λ some. (stays s t ps l some).0;
  highest = expected_grows s t ps l;
}
