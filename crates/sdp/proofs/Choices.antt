-- What is answered: the first common method of ours, left out where there is none. Assumes nothing.
use Rattle.std.specs.Prelude.{Option, Some, None, Result, Ok, Err}
use mathlib.Core.Path.{◌≡◌, refl, sym, ap, ◌∙◌}
use mathlib.Core.Bool.{Bool, true, false, cond, ◌||◌, false≢true}
use mathlib.Core.Logic.{◌⊎◌, inl, inr, ⊎_elim}
use mathlib.Core.List.{List, [], ◌∷◌, ◌++◌}
use Prim.Native.Nat.{ℕ}
use native.Mathlib.Omega.{arith}
use borrow.Author.Tests.{le-ltb}
use lib.Dec.{ltb}
use Rattle.answers.specs.declared.Refusal.{Refusal}
use Rattle.answers.specs.declared.Refusal.TheVariants.{Limits}
use Rattle.sdp.specs.declared.Method.{Method}
use Rattle.sdp.specs.declared.Method.TheVariants.{Rtp, Ice, Leap}
use Rattle.sdp.specs.declared.Mode.{Mode}
use Rattle.sdp.specs.declared.Mode.TheVariants.{SetOnly, SetRead, ReadOnly}
use Rattle.sdp.specs.declared.Attribute.{Attribute}
use Rattle.sdp.specs.declared.Chosen.{Chosen}
use Rattle.sdp.specs.Reading.{attribute_of}
use Rattle.sdp.specs.Writing.{methods_in, write_fault}
use Rattle.sdp.specs.Answers.{same_method, names, capability, both_one_way, first_in, answered, answer_of}
use Rattle.sdp.specs.Theorems.{ChosenFirst, NoAnswer, LeftOutThen, Writable, mode_set, modeless, AbsentIsSetread, OfferedEct, AnswerReads}
use Rattle.sdp.proofs.Backs.{reads_back}

same_is : (a b : Method) → same_method a b ≡ true → a ≡ b
same_is Rtp Rtp e = refl
same_is Rtp Ice e = absurd (false≢true e)
same_is Rtp Leap e = absurd (false≢true e)
same_is Ice Rtp e = absurd (false≢true e)
same_is Ice Ice e = refl
same_is Ice Leap e = absurd (false≢true e)
same_is Leap Rtp e = absurd (false≢true e)
same_is Leap Ice e = absurd (false≢true e)
same_is Leap Leap e = refl

same_self : (a : Method) → same_method a a ≡ true
same_self Rtp = refl
same_self Ice = refl
same_self Leap = refl

-- a list that names a method has it first or behind
names_cases : (x : Method) (l : List Method) (m : Method) → names (x ∷ l) m ≡ true → (P : Type 0) → (x ≡ m → P) → (names l m ≡ true → P) → P
unfolding names
names_cases x l m e P f g = go (same_method x m) refl e
  where
    go : (b : Bool) → same_method x m ≡ b → b || names l m ≡ true → P
    go true h t = f (same_is x m h)
    go false h t = g t

module _ (offered : List Method) (ours : Attribute) where
  -- what is found in a list stands there, and nothing before it is offered
  record Here (l : List Method) (c : Chosen) : Type 0 where
    before : List Method
    after : List Method
    stands : l ≡ before ++ (c.method ∷ after)
    named : names offered c.method ≡ true
    unnamed : (m : Method) → names before m ≡ true → names offered m ≡ false
    mode : c.mode ≡ ours.mode
    ect : c.ect ≡ ours.ect

  first_is : (l : List Method) (c : Chosen) → first_in offered l ours ≡ Some c → Here l c
  unfolding first_in names
  first_is [] c e = let z : ◌≡◌ {A = ℕ} 0 1 = cc in absurd (omega arith)
  first_is (x ∷ l) c e = go (names offered x) refl e (first_is l c)
    where
      go : (b : Bool) → names offered x ≡ b → cond b (Some (record { method = x; mode = ours.mode; ect = ours.ect })) (first_in offered l ours) ≡ Some c
          → (first_in offered l ours ≡ Some c → Here l c) → Here (x ∷ l) c
      go true h t f =
          let r : record { method = x; mode = ours.mode; ect = ours.ect } ≡ c = cc in
          record {
            before = [];
            after = l;
            stands = ap (λ (d : Chosen). d.method ∷ l) r;
            named = ap (λ (d : Chosen). names offered d.method) (sym r) ∙ h;
            unnamed = λ m k. absurd (false≢true k);
            mode = sym (ap (λ (d : Chosen). d.mode) r);
            ect = sym (ap (λ (d : Chosen). d.ect) r);
          }
      go false h t f =
          let g = f t in
          record {
            before = x ∷ g.before;
            after = g.after;
            stands = ap (λ (r : List Method). x ∷ r) g.stands;
            named = g.named;
            unnamed = λ m k. names_cases x g.before m k (names offered m ≡ false) (λ q. ap (names offered) (sym q) ∙ h) (g.unnamed m);
            mode = g.mode;
            ect = g.ect;
          }

  first_none : (l : List Method) → first_in offered l ours ≡ None → (m : Method) → names l m ≡ true → names offered m ≡ true → ⊥
  unfolding first_in names
  first_none [] e m h k = false≢true h
  first_none (x ∷ l) e m h k = go (names offered x) refl e (first_none l)
    where
      go : (b : Bool) → names offered x ≡ b → cond b (Some (record { method = x; mode = ours.mode; ect = ours.ect })) (first_in offered l ours) ≡ None
          → (first_in offered l ours ≡ None → (m : Method) → names l m ≡ true → names offered m ≡ true → ⊥) → ⊥
      go true q t f = let z : ◌≡◌ {A = ℕ} 0 1 = cc in omega arith
      go false q t f = names_cases x l m h ⊥ (λ i. false≢true (sym q ∙ ap (names offered) i ∙ k)) (λ n. f t m n k)

  none_first : (l : List Method) → ((m : Method) → names l m ≡ true → names offered m ≡ true → ⊥) → first_in offered l ours ≡ None
  unfolding first_in names
  none_first [] f = refl
  none_first (x ∷ l) f = go (names offered x) refl (none_first l (λ m h k. f m (behind (same_method x m) (names l m) h) k))
    where
      behind : (a b : Bool) → b ≡ true → a || b ≡ true
      behind true b e = refl
      behind false b e = e

      go : (b : Bool) → names offered x ≡ b → first_in offered l ours ≡ None
          → cond b (Some (record { method = x; mode = ours.mode; ect = ours.ect })) (first_in offered l ours) ≡ None
      go true q t = absurd (f x (rw (same_self x)) q)
      go false q t = t

-- ---- the answer's chain

included_first : (offer ours : Attribute) (c : Chosen) → answer_of offer ours ≡ Ok (Some c) → first_in (methods_in offer) (methods_in ours) ours ≡ Some c
unfolding answer_of
included_first offer ours c e = go (ltb 8 offer.used) (ltb 8 ours.used) (both_one_way (capability offer.mode) (capability ours.mode)) e
  where
    go : (a b d : Bool) → cond a (Err Limits) (cond b (Err Limits) (cond d (Ok None) (Ok (first_in (methods_in offer) (methods_in ours) ours)))) ≡ Ok (Some c)
        → first_in (methods_in offer) (methods_in ours) ours ≡ Some c
    go true b d t = let z : ◌≡◌ {A = ℕ} 0 1 = cc in absurd (omega arith)
    go false true d t = let z : ◌≡◌ {A = ℕ} 0 1 = cc in absurd (omega arith)
    go false false true t = let z : ◌≡◌ {A = ℕ} 0 1 = cc in absurd (omega arith)
    go false false false t = cc

pub chosen_first : ChosenFirst
chosen_first offer ours c e =
    let g = first_is (methods_in offer) ours (methods_in ours) c (included_first offer ours c e) in
    record {
      before = g.before;
      after = g.after;
      stands = g.stands;
      named = g.named;
      unnamed = λ m k j. false≢true (sym (g.unnamed m k) ∙ j);
      mode = g.mode;
      ect = g.ect;
    }

one_way : (a b : Mode) → both_one_way a b ≡ true → ((a ≡ SetOnly) × (b ≡ SetOnly)) ⊎ ((a ≡ ReadOnly) × (b ≡ ReadOnly))
one_way SetOnly SetOnly e = inl (refl, refl)
one_way SetOnly SetRead e = absurd (false≢true e)
one_way SetOnly ReadOnly e = absurd (false≢true e)
one_way SetRead SetOnly e = absurd (false≢true e)
one_way SetRead SetRead e = absurd (false≢true e)
one_way SetRead ReadOnly e = absurd (false≢true e)
one_way ReadOnly SetOnly e = absurd (false≢true e)
one_way ReadOnly SetRead e = absurd (false≢true e)
one_way ReadOnly ReadOnly e = inr (refl, refl)

pub left_out : LeftOutThen
unfolding answer_of
left_out offer ours h k = rw (le-ltb 8 offer.used h, le-ltb 8 ours.used k) (there (both_one_way theirs own) refl, back)
  where
    theirs : Mode
    theirs = capability offer.mode

    own : Mode
    own = capability ours.mode

    met : Result (Option Chosen) Refusal
    met = Ok (first_in (methods_in offer) (methods_in ours) ours)

    there : (b : Bool) → both_one_way theirs own ≡ b → cond b (Ok None) met ≡ Ok None → NoAnswer offer ours
    there true e t = ⊎_elim (λ w. NoAnswer.set w.0 w.1) (λ w. NoAnswer.read w.0 w.1) (one_way theirs own e)
    there false e t = let n : first_in (methods_in offer) (methods_in ours) ours ≡ None = cc in NoAnswer.apart (first_none (methods_in offer) ours (methods_in ours) n)

    back : NoAnswer offer ours → cond (both_one_way theirs own) (Ok None) met ≡ Ok None
    back (NoAnswer.set a b) = rw (a, b)
    back (NoAnswer.read a b) = rw (a, b)
    back (NoAnswer.apart f) = either (both_one_way theirs own) (none_first (methods_in offer) ours (methods_in ours) f)
      where
        either : (b : Bool) → first_in (methods_in offer) (methods_in ours) ours ≡ None → cond b (Ok None) met ≡ Ok None
        either true e = refl
        either false e = ap Ok e

-- our mode decides neither the method nor whether there is one
modeless_first : (offered l : List Method) (ours : Attribute) (o n : Option Mode)
    → modeless (Ok (first_in offered l (mode_set o ours))) ≡ modeless (Ok (first_in offered l (mode_set n ours)))
unfolding first_in
modeless_first offered [] ours o n = refl
modeless_first offered (x ∷ l) ours o n = go (names offered x) (modeless_first offered l ours o n)
  where
    go : (b : Bool) → modeless (Ok (first_in offered l (mode_set o ours))) ≡ modeless (Ok (first_in offered l (mode_set n ours)))
        → modeless (Ok (cond b (Some (record { method = x; mode = o; ect = ours.ect })) (first_in offered l (mode_set o ours))))
        ≡ modeless (Ok (cond b (Some (record { method = x; mode = n; ect = ours.ect })) (first_in offered l (mode_set n ours))))
    go true e = refl
    go false e = e

pub absent_is_setread : AbsentIsSetread
unfolding answer_of
absent_is_setread offer ours = (
  refl,
  go (ltb 8 offer.used) (ltb 8 ours.used) (both_one_way (capability offer.mode) SetRead)
      (modeless_first (methods_in offer) (methods_in ours) ours None (Some SetRead)),
)
  where
    go : (a b d : Bool)
        → modeless (Ok (first_in (methods_in offer) (methods_in ours) (mode_set None ours)))
        ≡ modeless (Ok (first_in (methods_in offer) (methods_in ours) (mode_set (Some SetRead) ours)))
        → modeless (cond a (Err Limits) (cond b (Err Limits) (cond d (Ok None) (Ok (first_in (methods_in offer) (methods_in ours) (mode_set None ours))))))
        ≡ modeless (cond a (Err Limits) (cond b (Err Limits) (cond d (Ok None) (Ok (first_in (methods_in offer) (methods_in ours) (mode_set (Some SetRead) ours))))))
    go true b d e = refl
    go false true d e = refl
    go false false true e = refl
    go false false false e = e

pub offered_ect : OfferedEct
unfolding answer_of
offered_ect offer ours e = refl

pub answer_reads : AnswerReads
unfolding attribute_of write_fault
answer_reads offer ours c e =
    let f = chosen_first offer ours c e in
    let w : Writable (answered c) = record { places = refl; sound = refl } in
    rw (← f.mode, ← f.ect) (reads_back (answered c) w)
