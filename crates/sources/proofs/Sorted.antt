-- Laws of a place put among rising ones: what is found, the order, and every property of places. Assumes nothing.
use Rattle.std.specs.Prelude.{Option, Some, None}
use mathlib.Core.Path.{◌≡◌, refl, sym, ap, ◌∙◌}
use mathlib.Core.Bool.{Bool, true, false, cond}
use mathlib.Core.List.{List, [], ◌∷◌, map}
use Prim.Native.Nat.{ℕ, suc, ◌+◌, ◌≤◌}
use native.Mathlib.Omega.{arith}
use borrow.Author.Tests.{le-leb, leb-true, leb-false, ltb-true, ltb-false, eqb-true, eqb-false, eq-eqb, ne_eqb}
use lib.Dec.{leb, ltb, eqb}
use lib.ListN.{length}
use Rattle.answers.specs.Conditions.{all}
use Rattle.answers.proofs.Conditions.{and_left, and_right}
use Rattle.source.specs.declared.Source.{Source}
use Rattle.sources.specs.declared.Place.{Place}
use Rattle.sources.specs.Rules.{rising}
use Rattle.sources.specs.Stands.{found, is_new, put}
use Rattle.sources.proofs.Found.{rising_first, rising_rest, below_none}

-- ---- what is found

pub found_put : (other : ℕ) (p : Place) (ps : List Place) → found other (put p ps) ≡ cond (eqb p.ssrc other) (Some p.source) (found other ps)
unfolding put found
found_put other p [] = refl
found_put other p (q ∷ qs) = go (found_put other p qs) (ltb q.ssrc p.ssrc) refl (eqb q.ssrc p.ssrc) refl (eqb p.ssrc other) refl (eqb q.ssrc other) refl
  where
    go : found other (put p qs) ≡ cond (eqb p.ssrc other) (Some p.source) (found other qs) → (l : Bool) → ltb q.ssrc p.ssrc ≡ l → (e : Bool) → eqb q.ssrc p.ssrc ≡ e
        → (o : Bool) → eqb p.ssrc other ≡ o → (k : Bool) → eqb q.ssrc other ≡ k
        → found other (cond l (q ∷ put p qs) (p ∷ cond e qs (q ∷ qs))) ≡ cond o (Some p.source) (cond k (Some q.source) (found other qs))
    go more true hl e he true ho true hk = absurd (let x = ltb-true q.ssrc p.ssrc hl in let y = eqb-true p.ssrc other ho in let z = eqb-true q.ssrc other hk in omega arith)
    go more true hl e he true ho false hk = rw hk (more ∙ rw ho)
    go more true hl e he false ho true hk = rw hk
    go more true hl e he false ho false hk = rw hk (more ∙ rw ho)
    go more false hl e he true ho k hk = rw ho
    go more false hl true he false ho true hk =
        absurd (let x = eqb-true q.ssrc p.ssrc he in let z = eqb-true q.ssrc other hk in eqb-false p.ssrc other ho (omega arith))
    go more false hl true he false ho false hk = rw ho
    go more false hl false he false ho k hk = rw (ho, hk)

-- ---- the order, and any property

pub rising_put : (least : ℕ) (p : Place) (ps : List Place) → least ≤ p.ssrc → rising least ps ≡ true → rising least (put p ps) ≡ true
unfolding put rising
rising_put least p [] h r = rw (le-leb least p.ssrc h)
rising_put least p (q ∷ qs) h r =
    go (λ g. rising_put (q.ssrc + 1) p qs g (rising_rest least q qs r)) (ltb q.ssrc p.ssrc) refl (eqb q.ssrc p.ssrc) refl
  where
    go : (q.ssrc + 1 ≤ p.ssrc → rising (q.ssrc + 1) (put p qs) ≡ true) → (l : Bool) → ltb q.ssrc p.ssrc ≡ l → (e : Bool) → eqb q.ssrc p.ssrc ≡ e
        → rising least (cond l (q ∷ put p qs) (p ∷ cond e qs (q ∷ qs))) ≡ true
    go more true hl e he =
        let x = ltb-true q.ssrc p.ssrc hl in
        rw (le-leb least q.ssrc (rising_first least q qs r), more (omega arith))
    go more false hl true he =
        let x = eqb-true q.ssrc p.ssrc he in
        rw (le-leb least p.ssrc h, ← x) (rising_rest least q qs r)
    go more false hl false he =
        let x = ltb-false q.ssrc p.ssrc hl in
        let y = eqb-false q.ssrc p.ssrc he in
        let above : p.ssrc + 1 ≤ q.ssrc = apart q.ssrc p.ssrc x y in
        rw (le-leb least p.ssrc h, le-leb (p.ssrc + 1) q.ssrc above) (rising_rest least q qs r)
      where
        apart : (a b : ℕ) → b ≤ a → (a ≡ b → ⊥) → b + 1 ≤ a
        apart a b h n = leb-true (b + 1) a (test (leb (b + 1) a) refl)
          where
            test : (t : Bool) → leb (b + 1) a ≡ t → t ≡ true
            test true e = refl
            test false e = absurd (n (let g = leb-false (b + 1) a e in omega arith))

pub all_put : (f : Place → Bool) (p : Place) (ps : List Place) → f p ≡ true → all (map f ps) ≡ true → all (map f (put p ps)) ≡ true
unfolding put
all_put f p [] h a = rw h
all_put f p (q ∷ qs) h a =
    go (ltb q.ssrc p.ssrc) (eqb q.ssrc p.ssrc) (all_put f p qs h (and_right (f q) (all (map f qs)) a)) (and_left (f q) (all (map f qs)) a) (and_right (f q) (all (map f qs)) a)
  where
    go : (l e : Bool) → all (map f (put p qs)) ≡ true → f q ≡ true → all (map f qs) ≡ true → all (map f (cond l (q ∷ put p qs) (p ∷ cond e qs (q ∷ qs)))) ≡ true
    go true e m x y = rw (x, m)
    go false true m x y = rw (h, y)
    go false false m x y = rw (h, x, y)

-- a new place is one more
pub put_count : (p : Place) (ps : List Place) (least : ℕ) → rising least ps ≡ true → length (put p ps) ≡ length ps + cond (is_new (found p.ssrc ps)) 1 0
unfolding put found
put_count p [] least r = refl
put_count p (q ∷ qs) least r = go (put_count p qs (q.ssrc + 1) (rising_rest least q qs r)) (ltb q.ssrc p.ssrc) refl (eqb q.ssrc p.ssrc) refl
  where
    go : length (put p qs) ≡ length qs + cond (is_new (found p.ssrc qs)) 1 0 → (l : Bool) → ltb q.ssrc p.ssrc ≡ l → (e : Bool) → eqb q.ssrc p.ssrc ≡ e
        → length (cond l (q ∷ put p qs) (p ∷ cond e qs (q ∷ qs))) ≡ suc (length qs) + cond (is_new (cond e (Some q.source) (found p.ssrc qs))) 1 0
    go more true hl true he = absurd (let x = ltb-true q.ssrc p.ssrc hl in let y = eqb-true q.ssrc p.ssrc he in omega arith)
    go more true hl false he = omega arith
    go more false hl true he = omega arith
    go more false hl false he =
        let x = ltb-false q.ssrc p.ssrc hl in
        rw (below_none p.ssrc (q.ssrc + 1) qs (omega arith) (rising_rest least q qs r)) (omega arith)

-- ---- rising places in which the same is found are the same

same_record : (p q : Place) → p.ssrc ≡ q.ssrc → p.source ≡ q.source → p ≡ q
same_record p q e f = λ i. record { ssrc = e i; source = f i }

some_same : {a b : Source} → ◌≡◌ {A = Option Source} (Some a) (Some b) → a ≡ b
some_same e = cc

never : {a : Source} → ◌≡◌ {A = Option Source} (Some a) None → ⊥
never e = let z : ◌≡◌ {A = ℕ} 0 1 = cc in omega arith

first_found : (p : Place) (ps : List Place) → found p.ssrc (p ∷ ps) ≡ Some p.source
unfolding found
first_found p ps = rw (eq-eqb p.ssrc p.ssrc refl)

pub same_found : (least : ℕ) (ps qs : List Place) → rising least ps ≡ true → rising least qs ≡ true → ((ssrc : ℕ) → found ssrc ps ≡ found ssrc qs) → ps ≡ qs
unfolding found
same_found least [] [] r s f = refl
same_found least [] (q ∷ qs) r s f = absurd (never (sym (f q.ssrc ∙ first_found q qs)))
same_found least (p ∷ ps) [] r s f = absurd (never (sym (first_found p ps) ∙ f p.ssrc))
same_found least (p ∷ ps) (q ∷ qs) r s f = go (same_found (p.ssrc + 1) ps qs (rising_rest least p ps r)) (ltb p.ssrc q.ssrc) refl (ltb q.ssrc p.ssrc) refl
  where
    behind : p.ssrc ≡ q.ssrc → (ssrc : ℕ) (b : Bool) → eqb p.ssrc ssrc ≡ b → found ssrc ps ≡ found ssrc qs
    behind e ssrc true h =
        let x = eqb-true p.ssrc ssrc h in
        below_none ssrc (p.ssrc + 1) ps (omega arith) (rising_rest least p ps r) ∙ sym (below_none ssrc (q.ssrc + 1) qs (omega arith) (rising_rest least q qs s))
    behind e ssrc false h =
        let x = eqb-false p.ssrc ssrc h in
        let g : eqb q.ssrc ssrc ≡ false = ap (λ (k : ℕ). eqb k ssrc) (sym e) ∙ h in
        sym (ap (λ (b : Bool). cond b (Some p.source) (found ssrc ps)) h) ∙ f ssrc ∙ ap (λ (b : Bool). cond b (Some q.source) (found ssrc qs)) g

    go : (rising (p.ssrc + 1) qs ≡ true → ((ssrc : ℕ) → found ssrc ps ≡ found ssrc qs) → ps ≡ qs)
        → (a : Bool) → ltb p.ssrc q.ssrc ≡ a → (b : Bool) → ltb q.ssrc p.ssrc ≡ b → p ∷ ps ≡ q ∷ qs
    go more true ha b hb =
        let l = ltb-true p.ssrc q.ssrc ha in
        let gone : found p.ssrc (q ∷ qs) ≡ None = rw (ne_eqb q.ssrc p.ssrc (λ z. omega arith)) (below_none p.ssrc (q.ssrc + 1) qs (omega arith) (rising_rest least q qs s)) in
        absurd (never (sym (first_found p ps) ∙ f p.ssrc ∙ gone))
    go more false ha true hb =
        let l = ltb-true q.ssrc p.ssrc hb in
        let gone : found q.ssrc (p ∷ ps) ≡ None = rw (ne_eqb p.ssrc q.ssrc (λ z. omega arith)) (below_none q.ssrc (p.ssrc + 1) ps (omega arith) (rising_rest least p ps r)) in
        absurd (never (sym (first_found q qs) ∙ sym (f q.ssrc) ∙ gone))
    go more false ha false hb =
        let x = ltb-false p.ssrc q.ssrc ha in
        let y = ltb-false q.ssrc p.ssrc hb in
        let e : p.ssrc ≡ q.ssrc = omega arith in
        let here = some_same (sym (first_found p ps) ∙ f p.ssrc ∙ ap (λ (k : ℕ). found k (q ∷ qs)) e ∙ first_found q qs) in
        let tails = more (ap (λ (k : ℕ). rising (k + 1) qs) e ∙ rising_rest least q qs s) (λ ssrc. behind e ssrc (eqb p.ssrc ssrc) refl) in
        λ i. same_record p q e here i ∷ tails i
