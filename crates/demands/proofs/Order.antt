-- Lists with the same arrivals have the same count but for the base. Assumes nothing.
use Rattle.std.specs.Prelude.{None}
use mathlib.Core.Path.{◌≡◌, refl, sym, ap, ap₂, ◌∙◌, subst}
use mathlib.Core.Bool.{Bool, true, false, not, ◌&&◌, ◌||◌}
use mathlib.Core.List.Permᴰ
use mathlib.Core.List.{List, [], ◌∷◌, ◌++◌, append-nil, reverse, reverse_aux, Permᴰ}
use Prim.Native.Nat.{ℕ, suc, ◌+◌, ◌-◌, ◌≤◌, ◌<◌}
use native.Mathlib.Omega.{arith}
use lib.Dec.{T, eqb, eqb→eq, eqb_refl}
use lib.IntN.{ℤ, pos, ◌-ℤ◌}
use lib.ListN.{length}
use Rattle.numbers.specs.Integers.{eq_z}
use Rattle.answers.proofs.Conditions.{is_true, is_false, true_is, false_not, both}
use Rattle.numbers.proofs.Integers.{eq_z_refl, eq_z_eq, eq_eq_z, le_z_antisym}
use Rattle.source.specs.Places.{bit}
use Rattle.source.specs.Arrivals.{extended}
use Rattle.source.proofs.Rows.{history_ext}
use Rattle.demands.specs.Calls.{TruePacket}
use Rattle.demands.specs.Count.{greatest, greatest_in, mem, distinct_of, tally, recent, count_from, occurs, SameArrivals}
use Rattle.demands.proofs.Members.{member_le, greatest_in_lem}

-- ---- the same arrivals are a permutation

abbrev same : TruePacket → TruePacket → Bool
same p q = eq_z p.number q.number && eqb p.mark q.mark

and_both : (a b : Bool) → T (a && b) → T a × T b
and_both true b t = (tt, t)
and_both false b t = absurd t

same_eq : (p q : TruePacket) → T (same p q) → p ≡ q
same_eq p q t =
    let e = and_both (eq_z p.number q.number) (eqb p.mark q.mark) t in
    λ i. record { number = eq_z_eq p.number q.number e.0 i; mark = eqb→eq p.mark q.mark e.1 i }

same_refl : (p : TruePacket) → same p p ≡ true
same_refl p = is_true (same p p) (both (eq_z p.number p.number) (eqb p.mark p.mark) (eq_z_refl p.number) (eqb_refl p.mark))

-- a packet that is in the list can stand first
extract : (p : TruePacket) (qs : List TruePacket) → 1 ≤ occurs p qs → (rs : List TruePacket) × Permᴰ qs (p ∷ rs)
extract p [] h = absurd (omega arith)
extract p (q ∷ qs) h = go (same p q) refl (λ l. extract p qs l)
  where
    go : (b : Bool) → same p q ≡ b → (1 ≤ occurs p qs → (rs : List TruePacket) × Permᴰ qs (p ∷ rs)) → (rs : List TruePacket) × Permᴰ (q ∷ qs) (p ∷ rs)
    go true e ih = (qs, Permᴰ.cons (sym (same_eq p q (true_is (same p q) e))) (Permᴰ.refl qs))
    go false e ih =
        let none : bit (same p q) ≡ 0 = ap bit e in
        let r = ih (omega arith) in
        (q ∷ r.0, Permᴰ.trans (Permᴰ.cons refl r.1) (Permᴰ.swap refl refl))

-- a sum over the list of what each packet adds does not depend on the order
module _ (f : TruePacket → ℕ) where
  sum : List TruePacket → ℕ
  sum [] = 0
  sum (p ∷ ps) = sum ps + f p

  perm_sum : {ps qs : List TruePacket} → Permᴰ ps qs → sum ps ≡ sum qs
  unfolding sum
  perm_sum Permᴰ.nil = refl
  perm_sum (Permᴰ.cons e r) = ap₂ (λ (n : ℕ) (p : TruePacket). n + f p) (perm_sum r) e
  perm_sum (Permᴰ.swap {a' = a} {b' = b} {l = l} e g) = ap₂ (λ (p q : TruePacket). sum l + f p + f q) g e ∙ exchange (sum l) (f a) (f b)
    where
      exchange : (n i j : ℕ) → n + i + j ≡ n + j + i
      exchange n i j = omega arith
  perm_sum (Permᴰ.trans r t) = perm_sum r ∙ perm_sum t

occurs_sum : (p : TruePacket) (ps : List TruePacket) → occurs p ps ≡ sum (λ q. bit (same p q)) ps
unfolding sum
occurs_sum p [] = refl
occurs_sum p (q ∷ qs) = ap (λ (n : ℕ). n + bit (same p q)) (occurs_sum p qs)

perm_occurs : (p : TruePacket) {ps qs : List TruePacket} → Permᴰ ps qs → occurs p ps ≡ occurs p qs
perm_occurs p {ps} {qs} r = occurs_sum p ps ∙ perm_sum (λ q. bit (same p q)) r ∙ sym (occurs_sum p qs)

pub same_perm : (ps qs : List TruePacket) → SameArrivals ps qs → Permᴰ ps qs
same_perm [] [] h = Permᴰ.nil
same_perm [] (q ∷ qs) h = let one : bit (same q q) ≡ 1 = ap bit (same_refl q) in absurd (omega (arith, h q))
same_perm (p ∷ ps) qs h =
    let one : bit (same p p) ≡ 1 = ap bit (same_refl p) in
    let r = extract p qs (omega (arith, h p)) in
    Permᴰ.trans (Permᴰ.cons refl (same_perm ps r.0 (λ a. omega (arith, h a, perm_occurs a r.1)))) (Permᴰ.symm r.1)

-- ---- what a permutation keeps

tally_sum : (m : ℕ) (ps : List TruePacket) → tally m ps ≡ sum (λ p. bit (eqb p.mark m)) ps
unfolding sum
tally_sum m [] = refl
tally_sum m (p ∷ ps) = ap (λ (n : ℕ). n + bit (eqb p.mark m)) (tally_sum m ps)

perm_tally : (m : ℕ) {ps qs : List TruePacket} → Permᴰ ps qs → tally m ps ≡ tally m qs
perm_tally m {ps} {qs} r = tally_sum m ps ∙ perm_sum (λ p. bit (eqb p.mark m)) r ∙ sym (tally_sum m qs)

pub perm_length : {ps qs : List TruePacket} → Permᴰ ps qs → length ps ≡ length qs
perm_length Permᴰ.nil = refl
perm_length (Permᴰ.cons e r) = ap suc (perm_length r)
perm_length (Permᴰ.swap e f) = refl
perm_length (Permᴰ.trans r t) = perm_length r ∙ perm_length t

perm_mem : (z : ℤ) {ps qs : List TruePacket} → Permᴰ ps qs → mem z ps ≡ mem z qs
perm_mem z Permᴰ.nil = refl
perm_mem z (Permᴰ.cons e r) = ap₂ (λ (p : TruePacket) (t : Bool). eq_z z p.number || t) e (perm_mem z r)
perm_mem z (Permᴰ.swap {a' = a} {b' = b} {l = l} e f) =
    ap₂ (λ (p q : TruePacket). eq_z z p.number || (eq_z z q.number || mem z l)) e f ∙ exchange (eq_z z b.number) (eq_z z a.number) (mem z l)
  where
    exchange : (a b c : Bool) → (a || (b || c)) ≡ (b || (a || c))
    exchange true true c = refl
    exchange true false c = refl
    exchange false true c = refl
    exchange false false c = refl
perm_mem z (Permᴰ.trans r t) = perm_mem z r ∙ perm_mem z t

-- two packets change places: the one of two equal numbers that stands last is counted
distinct_swap : (p q : TruePacket) (l : List TruePacket) → distinct_of (p ∷ (q ∷ l)) ≡ distinct_of (q ∷ (p ∷ l))
distinct_swap p q l = go (eq_z p.number q.number) refl
  where
    both_of : ℤ → ℤ → ℕ
    both_of x y = distinct_of l + bit (not (mem y l)) + bit (not (eq_z x y || mem x l))

    go : (t : Bool) → eq_z p.number q.number ≡ t → both_of p.number q.number ≡ both_of q.number p.number
    go true e =
        let w : p.number ≡ q.number = eq_z_eq p.number q.number (true_is (eq_z p.number q.number) e) in
        ap (λ (y : ℤ). both_of p.number y) (sym w) ∙ ap (λ (x : ℤ). both_of x p.number) w
    go false e =
        let f : eq_z q.number p.number ≡ false = is_false (eq_z q.number p.number) (λ t.
        false_not (eq_z p.number q.number) e (eq_eq_z p.number q.number (sym (eq_z_eq q.number p.number t)))) in
        rw (e, f) (omega arith)

perm_distinct : {ps qs : List TruePacket} → Permᴰ ps qs → distinct_of ps ≡ distinct_of qs
perm_distinct Permᴰ.nil = refl
perm_distinct (Permᴰ.cons {a = a} {l₂ = l} e r) =
    ap₂ (λ (n : ℕ) (t : Bool). n + bit (not t)) (perm_distinct r) (perm_mem a.number r ∙ ap (λ (p : TruePacket). mem p.number l) e)
perm_distinct (Permᴰ.swap {a' = a} {b' = b} {l = l} e f) = ap₂ (λ (p q : TruePacket). distinct_of (p ∷ (q ∷ l))) e f ∙ distinct_swap b a l
perm_distinct (Permᴰ.trans r t) = perm_distinct r ∙ perm_distinct t

-- the greatest is in both lists, so each is at most the other
same_highest : (ps qs : List TruePacket) → length ps ≡ length qs → ((z : ℤ) → mem z ps ≡ mem z qs) → greatest_in ps ≡ greatest_in qs
same_highest [] [] e h = refl
same_highest [] (q ∷ qs) e h = absurd (omega arith)
same_highest (p ∷ ps) [] e h = absurd (omega arith)
same_highest (p ∷ ps) (q ∷ qs) e h =
    le_z_antisym (greatest p.number ps) (greatest q.number qs)
    (member_le (greatest p.number ps) q qs (subst T (h (greatest p.number ps)) (greatest_in_lem p ps)))
    (member_le (greatest q.number qs) p ps (subst T (sym (h (greatest q.number qs))) (greatest_in_lem q qs)))

pub perm_highest : {ps qs : List TruePacket} → Permᴰ ps qs → greatest_in ps ≡ greatest_in qs
perm_highest {ps} {qs} r = same_highest ps qs (perm_length r) (λ z. perm_mem z r)

-- ---- the count

pub perm_count : (base : ℤ) {ps qs : List TruePacket} → Permᴰ ps qs → count_from base ps ≡ count_from base qs
unfolding count_from
perm_count base {ps} {qs} r = λ i. record {
  base = extended base;
  highest = extended (perm_highest r i);
  notect = perm_tally 0 r i;
  ect1 = perm_tally 1 r i;
  ect0 = perm_tally 2 r i;
  ce = perm_tally 3 r i;
  duplicates = ap₂ ◌-◌ (perm_length r) (perm_distinct r) i;
  history = history_ext (recent ps) (recent qs) row i;
  remembered = None;
}
  where
    row : (k : ℕ) → k < 100 → recent ps k ≡ recent qs k
    row k l = ap (λ (z : ℤ). mem (z -ℤ pos k) ps) (perm_highest r) ∙ perm_mem (greatest_in qs -ℤ pos k) r

-- a list and its reverse
perm_reverse_aux : (ps qs : List TruePacket) → Permᴰ (reverse_aux ps qs) (ps ++ qs)
perm_reverse_aux [] qs = Permᴰ.refl qs
perm_reverse_aux (p ∷ ps) qs = Permᴰ.trans (perm_reverse_aux ps (p ∷ qs)) (middle ps)
  where
    middle : (ps : List TruePacket) → Permᴰ (ps ++ (p ∷ qs)) (p ∷ (ps ++ qs))
    middle [] = Permᴰ.refl (p ∷ qs)
    middle (r ∷ rs) = Permᴰ.trans (Permᴰ.cons refl (middle rs)) (Permᴰ.swap refl refl)

pub perm_reverse : (ps : List TruePacket) → Permᴰ (reverse ps) ps
perm_reverse ps = subst (λ (l : List TruePacket). Permᴰ (reverse ps) l) (append-nil ps) (perm_reverse_aux ps [])
