-- The reader's loop: what is answered from here on is what is answered to the line. Assumes nothing.
use Rattle.std.specs.Prelude.{Option, Some, None, Result}
use mathlib.Core.Path.{◌≡◌, refl, sym, ap, ◌∙◌, subst}
use mathlib.Core.Bool.{true}
use mathlib.Core.List.{List, [], ◌∷◌, ◌++◌}
use Prim.Native.Nat.{ℕ, zero, suc, ◌+◌, ◌≤◌, ◌<◌}
use native.Mathlib.Omega.{arith}
use lib.ListN.{length, drop, length-append, length-drop}
use Rattle.answers.specs.declared.Refusal.{Refusal}
use Rattle.answers.specs.declared.Refusal.TheVariants as why
use Rattle.sdp.specs.declared.Attribute.{Attribute}
use Rattle.sdp.specs.declared.steps.Part.{Part}
use Rattle.sdp.specs.declared.steps.Part.TheVariants as part
use Rattle.sdp.specs.declared.steps.Found.{Found}
use Rattle.sdp.specs.declared.steps.Found.TheVariants as found
use Rattle.sdp.specs.declared.steps.Step.{Step}
use Rattle.sdp.specs.declared.reader.Tally.{Tally}
use Rattle.sdp.specs.Reading.{refused_by, Reads}
use Rattle.sdp.specs.Steps.{begins, Entry, EntryIs, item_of, Stands}
use Rattle.sdp.specs.Tallies.{no_tally, noted, Small, finished}
use Rattle.sdp.proofs.Turns.{step_of, entry_at, Right, right, told}
use Rattle.sdp.proofs.Derivations.{items, turn, consed, entry_long, next_fits, begun_back}
use Rattle.sdp.proofs.Counting.{part_of, tallied, noted_small}
use Rattle.sdp.proofs.Answering.{outcome, items_in, reads_outcome}

pub record Walking (s : List ℕ) (p : Part) (t : Tally) (at : ℕ) : Type 0 where
  pub fits : length s ≤ 255
  pub named : begins s ≡ true
  pub here : at ≤ length s
  pub small : Small t at
  pub left : ℕ
  pub enough : length s ≤ at + left
  pub same : outcome t (items left p s at) ≡ outcome no_tally (items_in s)

pub walking_starts : (s : List ℕ) → length s ≤ 255 → begins s ≡ true → Walking s part.Methods no_tally 19
walking_starts s h b =
    record {
      fits = h;
      named = b;
      here = (begun_back s b).2;
      small = record { methods = omega arith; parms = omega arith; modes = omega arith; ects = omega arith };
      left = length s;
      enough = omega arith;
      same = refl;
    }

part_of_lem : (p : Part) (s : List ℕ) (at : ℕ) → part_of (entry_at p s at) ≡ p
part_of_lem part.Methods s at = refl
part_of_lem part.Parms s at = refl

outcome_consed : (t : Tally) (x : Entry) (later : Option (List Entry)) → outcome t (consed x later) ≡ outcome (noted t (part_of x) (item_of x)) later
unfolding outcome tallied
outcome_consed t x None = refl
outcome_consed t x (Some xs) = refl

outcome_last : (t : Tally) (x : Entry) → outcome t (Some (x ∷ [])) ≡ finished (noted t (part_of x) (item_of x))
unfolding outcome tallied
outcome_last t x = refl

outcome_none : (t : Tally) → outcome t None ≡ refused_by why.Attribute
unfolding outcome
outcome_none t = refl

-- the answer to the line is right
answered : {s : List ℕ} {p : Part} {t : Tally} {at : ℕ} {r : Result Attribute Refusal} → Walking s p t at → r ≡ outcome no_tally (items_in s) → Reads s r
answered {s} w e = rw e (reads_outcome s w.fits w.named)

module _ (s : List ℕ) (p : Part) (t : Tally) (at : ℕ) (w : Walking s p t at) where
  -- at the end there is no item
  pub walking_ends : {r : Result Attribute Refusal} → length s ≤ at → r ≡ refused_by why.Attribute → Reads s r
  unfolding items
  walking_ends {r} h e = answered w (e ∙ sym (outcome_none t) ∙ ap (outcome t) (sym (empty w.left)) ∙ w.same)
    where
      nowhere : {u : List ℕ} {x : Entry} → EntryIs p u x → (b : List ℕ) → drop at s ≡ u ++ b → ⊥
      nowhere {u} k b d = let n = entry_long k in let l = ap length d in let a = length-append u b in let g = length-drop at s in omega arith

      stuck : (v : Step) (k : ℕ) → Right p s at v → turn v.found (entry_at p s at) (items k v.part s v.at) ≡ None
      stuck v k Right.nothing = refl
      stuck v k (Right.last i) = let n = entry_long i in let g = length-drop at s in absurd (omega arith)
      stuck v k (Right.more q u b u' i j d) = absurd (nowhere i (b ++ u') d)

      empty : (k : ℕ) → items k p s at ≡ None
      empty zero = refl
      empty (suc k) = stuck (step_of p s at) k (right s at w.here p)

  module _ (h : at < length s) {v : Step} (e : Stands p s at v) where
    -- one turn at least is left
    again : (j : ℕ) × (length s ≤ at + suc j) × (outcome t (turn v.found (entry_at p s at) (items j v.part s v.at)) ≡ outcome no_tally (items_in s))
    unfolding items
    again = go w.left w.enough w.same
      where
        go : (k : ℕ) → length s ≤ at + k → outcome t (items k p s at) ≡ outcome no_tally (items_in s)
            → (j : ℕ) × (length s ≤ at + suc j) × (outcome t (turn v.found (entry_at p s at) (items j v.part s v.at)) ≡ outcome no_tally (items_in s))
        go zero l q = absurd (omega arith)
        go (suc j) l q = (j, l, rw (told s at w.here p e) q)

    turned : (f : Found) → v.found ≡ f → outcome t (turn f (entry_at p s at) (items again.0 v.part s v.at)) ≡ outcome no_tally (items_in s)
    turned f q =
        subst (λ (g : Found). outcome t (turn g (entry_at p s at) (items again.0 v.part s v.at)) ≡ outcome no_tally (items_in s)) q again.2

    here_right : Right p s at v
    here_right = rw (told s at w.here p e) (right s at w.here p)

    pub turn_none : {r : Result Attribute Refusal} → v.found ≡ found.Nothing → r ≡ refused_by why.Attribute → Reads s r
    turn_none f q = answered w (q ∙ sym (outcome_none t) ∙ turned found.Nothing f)

    pub turn_last : {r : Result Attribute Refusal} {u : Tally} → v.found ≡ found.Last → u ≡ noted t p v.item → r ≡ finished u → Reads s r
    turn_last {r} {u} f k q =
        answered w (q ∙ ap finished (k ∙ last_noted v here_right f) ∙ sym (outcome_last t (entry_at p s at)) ∙ turned found.Last f)
      where
        last_noted : (v : Step) → Right p s at v → v.found ≡ found.Last → noted t p v.item ≡ noted t (part_of (entry_at p s at)) (item_of (entry_at p s at))
        last_noted v Right.nothing f = let z : ◌≡◌ {A = ℕ} 0 1 = cc in absurd (omega arith)
        last_noted v (Right.last i) f = rw (part_of_lem p s at)
        last_noted v (Right.more q u b u' i j d) f = let z : ◌≡◌ {A = ℕ} 0 1 = cc in absurd (omega arith)

    pub turn_more : {u : Tally} → v.found ≡ found.More → u ≡ noted t p v.item → Walking s v.part u v.at × (at < v.at)
    turn_more {u} f k = go v here_right f again.0 again.1 again.2 k
      where
        go : (v : Step) → Right p s at v → v.found ≡ found.More → (j : ℕ) → length s ≤ at + suc j
            → outcome t (turn v.found (entry_at p s at) (items j v.part s v.at)) ≡ outcome no_tally (items_in s) → u ≡ noted t p v.item
            → Walking s v.part u v.at × (at < v.at)
        go v Right.nothing f j l q k = let z : ◌≡◌ {A = ℕ} 0 1 = cc in absurd (omega arith)
        go v (Right.last i) f j l q k = let z : ◌≡◌ {A = ℕ} 0 1 = cc in absurd (omega arith)
        go v (Right.more n x b y i o d) f j l q k =
            let a = entry_long i in (
              record {
                fits = w.fits;
                named = w.named;
                here = next_fits s at x b y w.here d;
                small = rw k (noted_small t p (item_of (entry_at p s at)) at (at + (length x + length b)) w.small (omega arith));
                left = j;
                enough = omega arith;
                same =
                    ap (λ (m : Tally). outcome m (items j n s (at + (length x + length b)))) k
                    ∙ ap (λ (r : Part). outcome (noted t r (item_of (entry_at p s at))) (items j n s (at + (length x + length b)))) (sym (part_of_lem p s at))
                    ∙ sym (outcome_consed t (entry_at p s at) (items j n s (at + (length x + length b)))) ∙ q;
              },
              omega arith,
            )

pub small_more : (t : Tally) (n m : ℕ) → Small t n → n ≤ m → Small t m
small_more t n m h l =
    record {
      methods = omega (arith, h.methods);
      parms = omega (arith, h.parms);
      modes = omega (arith, h.modes);
      ects = omega (arith, h.ects);
    }
