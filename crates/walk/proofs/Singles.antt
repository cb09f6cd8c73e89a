-- The calls for one block each follow their program. Assumes nothing.
use Rattle.std.specs.Prelude.{Option, Some, None, Result, Ok, Err}
use Rattle.answers.specs.declared.Unwritten.{Unwritten}
use mathlib.Core.Path.{◌≡◌, refl, sym, ap, ◌∙◌, subst, subst⁻¹}
use mathlib.Core.Bool.{Bool, true, false, cond}
use mathlib.Core.List.{List, [], ◌∷◌, append-nil}
use Prim.Native.Nat.{ℕ, suc, ◌+◌}
use native.Mathlib.Nat.{add-zero}
use native.Mathlib.Omega.{arith}
use lib.Dec.{ltb}
use lib.ListN.{length, replicate}
use Rattle.answers.specs.Writers.{written}
use Rattle.answers.specs.declared.Refusal.{Refusal}
use Rattle.walk.specs.Programs.{Printed, nothing, both, to_output, Turn, Program, ending_at}
use Rattle.walk.specs.Pieces.{Octets, whole_in}
use Rattle.walk.specs.Fitting.{Took, none_taken, one_more, front}
use Rattle.walk.specs.Steps.{Next, goes, refuses, fault_in}
use Rattle.walk.specs.Machines.{Gave, Standing, begun_by, took_by, ending_by, goes_on, Gives, Follows}
use Rattle.walk.specs.Singles.{Singles, Held, started_by, none_given, gave_by, given_for, end_for, singly, Starts, Turns, Mirrors, SinglesPrint}
use Rattle.walk.proofs.Cuts.{Each}
use Rattle.walk.proofs.Pieces.{octets_wholes}
use Rattle.walk.proofs.Sessions.{session_prints}

module _ {A S : Type 0} {c : Singles A} {p : Program S} (m : Mirrors c p) where
  -- what is handed on stands for the program's state; after a refused block 0 the end is known
  abbrev StandsBy : Option A → S → ℕ → Option Refusal → Type 0
  StandsBy (Some a) x block o = m.Stands a x
  StandsBy None x block (Some refusal) = p.close x (ending_at block (Some refusal)) ≡ c.over refusal
  StandsBy None x block None = ⊥

  abbrev at : S → ℕ → Option Refusal → Standing S
  at x block o = record { state = x; block = block; refusal = o }

  record StandsFor (h : Held A) (s : Standing S) : Type 0 where
    state : S
    stands : StandsBy h.state state h.block h.refusal
    is : at state h.block h.refusal ≡ s

  -- ---- block 0

  begins : (b : List ℕ) → Octets b → StandsFor ((singly c).begin b).state (begun_by (p.begin b))
  begins b o = go (c.start b) (m.starts b o).0
    where
      t : Turn S
      t = p.begin b

      go : (n : Next A) → Starts m.Stands c p t n → StandsFor (started_by n) (begun_by t)
      go (goes a) h = record { state = t.state; stands = h.0; is = λ i. begun_by (record { state = t.state; printed = t.printed; refusal = sym h.1 i }) }
      go (refuses refusal) h = record { state = t.state; stands = h.0; is = λ i. begun_by (record { state = t.state; printed = t.printed; refusal = sym h.1 i }) }

  -- ---- the first block of a piece

  module _ (x : S) (block room : ℕ) where
    abbrev GivesBy : Option Refusal → Took S → Gave (Held A) → Type 0
    GivesBy o w g = Gives StandsFor (at x block o) w g

    -- nothing is taken
    none_given_lem : (a : Option A) (o : Option Refusal) → StandsBy a x block o
        → GivesBy o (record { state = x; taken = 0; printed = nothing; refusal = o }) (none_given (record { state = a; block = block; refusal = o }))
    none_given_lem a o h = record {
      stands = record { state = x; stands = h; is = λ i. at x (sym (add-zero block) i) o };
      taken = refl;
      printed = refl;
    }

    module _ (a : A) (b : List ℕ) (h : m.Stands a x) where
      abbrev here : Held A
      here = record { state = Some a; block = block; refusal = None }

      -- by what the block brings, with what the first block and then none gives
      abbrev took_one : Turn S → Took S
      took_one t = one_more t t.refusal (none_taken t.state)

      printed_is : (t : Turn S) (bytes : List ℕ) → t.printed ≡ to_output bytes → to_output bytes ≡ both t.printed nothing
      printed_is t bytes e = ap to_output (sym (append-nil bytes)) ∙ ap (λ (q : Printed). both q nothing) (sym e)

      one_goes : (t : Turn S) (next : A) (bytes : List ℕ) (n : ℕ) → Turns m.Stands a x bytes t (goes next) → GivesBy None (took_one t) (gave_by here a (goes next) bytes (Ok n))
      one_goes t next bytes n k =
          subst⁻¹ (λ (o : Option Refusal). GivesBy None (one_more t o (none_taken t.state)) (gave_by here a (goes next) bytes (Ok n))) k.2
          (record {
            stands = record { state = t.state; stands = k.0; is = λ i. at t.state (one_more_lem i) None };
            taken = refl;
            printed = printed_is t bytes k.1;
          })
        where
          one_more_lem : suc block ≡ block + 1
          one_more_lem = omega arith

      one_refused : (t : Turn S) (refusal : Refusal) (bytes : List ℕ) → Turns m.Stands a x bytes t (refuses refusal)
          → GivesBy None (took_one t) (gave_by here a (refuses refusal) bytes (Err (Unwritten.Refused refusal)))
      one_refused t refusal bytes k =
          subst⁻¹ (λ (t : Turn S). GivesBy None (took_one t) (gave_by here a (refuses refusal) bytes (Err (Unwritten.Refused refusal)))) k
          (record {
            stands = record { state = x; stands = h; is = λ i. at x (sym (add-zero block) i) (Some refusal) };
            taken = refl;
            printed = refl;
          })

    gives : (a : Option A) (o : Option Refusal) (piece : List ℕ) (bs : List (List ℕ)) → whole_in piece ≡ bs → Each Octets bs → StandsBy a x block o
        → (most : ℕ) × GivesBy o (took_by p (at x block o) o piece most) (given_for c (record { state = a; block = block; refusal = o }) a o bs room)
    unfolding front written
    gives None (Some refusal) piece bs e q h = (0, none_given_lem None (Some refusal) h)
    gives None None piece bs e q h = absurd h
    gives (Some a) (Some refusal) piece bs e q h = (0, none_given_lem (Some a) (Some refusal) h)
    gives (Some a) None piece [] e q h = (0, none_given_lem (Some a) None h)
    gives (Some a) None piece (b ∷ bs) e q h = go (c.next a b) (m.turns block a x b h q.0)
      where
        t : Turn S
        t = p.step block x b

        old : List ℕ
        old = replicate room 0

        size : ℕ
        size = length (c.bytes a b)

        given : Next A → Result ℕ Unwritten → Gave (Held A)
        given n w = gave_by (here a b h) a n (c.bytes a b) w

        -- what the first block gives
        first : {g : Gave (Held A)} → GivesBy None (took_one a b h t) g → GivesBy None (front p block 1 (whole_in piece) x) g
        first {g} k = subst⁻¹ (λ (bs : List (List ℕ)). GivesBy None (front p block 1 bs x) g) e k

        go : (n : Next A) → Turns m.Stands a x (c.bytes a b) t n
            → (most : ℕ) × GivesBy None (front p block most (whole_in piece) x) (given n (written (fault_in n) (c.bytes a b) old))
        go (refuses refusal) k = (1, first (one_refused a b h t refusal (c.bytes a b) k))
        go (goes next) k = by_room (ltb (length old) size)
          where
            by_room : (small : Bool) → (most : ℕ) × GivesBy None (front p block most (whole_in piece) x) (given (goes next) (cond small (Err (Unwritten.Room size)) (Ok size)))
            by_room true = (0, none_given_lem (Some a) None h)
            by_room false = (1, first (one_goes a b h t next (c.bytes a b) size k))

  -- ---- the end

  ends_by : (a : Option A) (x : S) (block : ℕ) (o : Option Refusal) (rest : List ℕ) → StandsBy a x block o
      → end_for c (record { state = a; block = block; refusal = o }) a o rest ≡ p.close x (ending_by block o rest)
  ends_by (Some a) x block o rest h = m.ends a x (ending_by block o rest) h
  ends_by None x block (Some refusal) rest h = sym h
  ends_by None x block None rest h = absurd h

  follows : Follows (singly c) p
  follows = record {
    Stands = StandsFor;
    going = λ h s st. ap (λ (s : Standing S). goes_on s.refusal) st.is;
    begins = λ b o. (begins b o, sym (m.starts b o).1);
    takes = λ h s piece room st o few.
        subst (λ (s : Standing S). (most : ℕ) × Gives StandsFor s (took_by p s s.refusal piece most) ((singly c).blocks h piece room)) st.is
        (gives st.state h.block room h.state h.refusal piece (whole_in piece) refl (octets_wholes piece o) st.stands);
    ends = λ h s rest st.
        ends_by h.state st.state h.block h.refusal rest st.stands
        ∙ ap (λ (s : Standing S). p.close s.state (ending_by s.block s.refusal rest)) st.is;
    parts = m.parts;
  }

pub singles_print : SinglesPrint
singles_print A S c p trace q m o few session = session_prints (Held A) S (singly c) p trace q (follows m) o few session
