-- Calls for one block each on words, and on what the words are read as. Assumes nothing.
use Rattle.std.specs.Prelude.{Option, Some, None, Ok, Err}
use Rattle.answers.specs.declared.Unwritten.{Unwritten}
use mathlib.Core.Path.{◌≡◌, refl, sym, ap, ◌∙◌, subst, subst⁻¹}
use mathlib.Core.Bool.{Bool, true, false, cond}
use mathlib.Core.List.{List, [], ◌∷◌, ◌++◌}
use Prim.Native.Nat.{ℕ}
use lib.Dec.{ltb}
use lib.ListN.{length, take, drop, replicate}
use lib.Seq.{take_at}
use Rattle.answers.specs.Writers.{written}
use Rattle.answers.specs.declared.Refusal.{Refusal}
use Rattle.format.specs.Blocks.{block_bytes}
use Rattle.numbers.proofs.Octets.{octets_take, octets_drop}
use Rattle.walk.specs.Programs.{Printed, both}
use Rattle.walk.specs.Pieces.{Octets, whole_in}
use Rattle.walk.specs.Steps.{Next, goes, refuses, fault_in}
use Rattle.walk.specs.Machines.{Gave, Rest, more, done, over, Session, began, ending_by, goes_on}
use Rattle.walk.specs.Singles.{Singles, Held, started_by, gave_by, given_for, end_for, singly}
use Rattle.walk.proofs.Cuts.{Each}
use Rattle.walk.proofs.Pieces.{octets_wholes}
use Rattle.callers.specs.Sessions.{BothBring, ReadsAs, SessionReads}

module _ {A B : Type 0} {c : Singles A} {d : Singles B} (m : ReadsAs c d) where
  -- what both hold between two calls
  StateSame : Option A → Option B → Type 0
  StateSame None None = Unit {0}
  StateSame (Some x) (Some y) = m.Reads x y
  StateSame None (Some y) = ⊥
  StateSame (Some x) None = ⊥

  record Same (h : Held A) (k : Held B) : Type 0 where
    state : StateSame h.state k.state
    block : h.block ≡ k.block
    refusal : h.refusal ≡ k.refusal

  -- what both give for a piece
  record GaveSame (g : Gave (Held A)) (f : Gave (Held B)) : Type 0 where
    state : Same g.state f.state
    taken : g.taken ≡ f.taken
    printed : g.printed ≡ f.printed

  abbrev held_a : Option A → ℕ → Option Refusal → Held A
  held_a x n o = record { state = x; block = n; refusal = o }

  abbrev held_b : Option B → ℕ → Option Refusal → Held B
  held_b y n o = record { state = y; block = n; refusal = o }

  -- ---- block 0

  started : (p : Next A) (q : Next B) → BothBring m.Reads p q → Same (started_by p) (started_by q)
  unfolding StateSame
  started (goes x) (goes y) r = record { state = r; block = refl; refusal = refl }
  started (goes x) (refuses refusal) r = absurd r
  started (refuses refusal) (goes y) r = absurd r
  started (refuses refusal) (refuses other) r = record { state = tt; block = refl; refusal = ap Some r }

  -- ---- a later block

  module _ (x : A) (y : B) (n : ℕ) (st : m.Reads x y) where
    stays : GaveSame (record { state = held_a (Some x) n None; taken = 0; printed = record { out = []; err = [] } }) (record { state = held_b (Some y) n None; taken = 0; printed = record { out = []; err = [] } })
    unfolding StateSame
    stays = record { state = record { state = st; block = refl; refusal = refl }; taken = refl; printed = refl }

    gave : (room : List ℕ) (bytes : List ℕ) (p : Next A) (q : Next B) → BothBring m.Reads p q
        → GaveSame (gave_by (held_a (Some x) n None) x p bytes (written (fault_in p) bytes room)) (gave_by (held_b (Some y) n None) y q bytes (written (fault_in q) bytes room))
    unfolding StateSame written
    gave room bytes (goes a) (goes b) r = go (ltb (length room) (length bytes))
      where
        go : (small : Bool) → GaveSame (gave_by (held_a (Some x) n None) x (goes a) bytes (cond small (Err (Unwritten.Room (length bytes))) (Ok (length bytes)))) (gave_by (held_b (Some y) n None) y (goes b) bytes (cond small (Err (Unwritten.Room (length bytes))) (Ok (length bytes))))
        go true = stays
        go false = record { state = record { state = r; block = refl; refusal = refl }; taken = refl; printed = refl }
    gave room bytes (goes a) (refuses refusal) r = absurd r
    gave room bytes (refuses refusal) (goes b) r = absurd r
    gave room bytes (refuses refusal) (refuses other) r = record { state = record { state = st; block = refl; refusal = ap Some r }; taken = refl; printed = refl }

  given : (x : Option A) (y : Option B) (n : ℕ) (o : Option Refusal) (bs : List (List ℕ)) (room : ℕ) → StateSame x y → Each Octets bs
      → GaveSame (given_for c (held_a x n o) x o bs room) (given_for d (held_b y n o) y o bs room)
  unfolding StateSame
  given (Some x) (Some y) n None (b ∷ bs) room st o =
      let t = m.turns x y b st o.0 in
      subst (λ (l : List ℕ). GaveSame (gave_by (held_a (Some x) n None) x (c.next x b) (c.bytes x b) (written (fault_in (c.next x b)) (c.bytes x b) (replicate room 0)))
      (gave_by (held_b (Some y) n None) y (d.next y b) l (written (fault_in (d.next y b)) l (replicate room 0)))) t.1
      (gave x y n st (replicate room 0) (c.bytes x b) (c.next x b) (d.next y b) t.0)
  given (Some x) (Some y) n None [] room st o = stays x y n st
  given (Some x) (Some y) n (Some refusal) bs room st o = record { state = record { state = st; block = refl; refusal = refl }; taken = refl; printed = refl }
  given None None n r bs room st o = record { state = record { state = tt; block = refl; refusal = refl }; taken = refl; printed = refl }
  given (Some x) None n r bs room st o = absurd st
  given None (Some y) n r bs room st o = absurd st

  -- by equal blocks and refusals
  module _ (h : Held A) (k : Held B) (s : Same h k) where
    same_held : held_b k.state h.block h.refusal ≡ k
    same_held = λ i. held_b k.state (s.block i) (s.refusal i)

    blocks_same : (piece : List ℕ) (room : ℕ) → Octets piece → GaveSame ((singly c).blocks h piece room) ((singly d).blocks k piece room)
    blocks_same piece room o =
        subst (λ (k : Held B). GaveSame ((singly c).blocks h piece room) ((singly d).blocks k piece room)) same_held
        (given h.state k.state h.block h.refusal (whole_in piece) room s.state (octets_wholes piece o))

    going_same : (singly c).going h ≡ (singly d).going k
    going_same = ap goes_on s.refusal

    end_same : (rest : List ℕ) → (singly c).end h rest ≡ (singly d).end k rest
    unfolding StateSame
    end_same rest = go h.state k.state h.refusal s.state ∙ ap (λ (k : Held B). (singly d).end k rest) same_held
      where
        go : (x : Option A) (y : Option B) (o : Option Refusal) → StateSame x y → end_for c (held_a x h.block o) x o rest ≡ end_for d (held_b y h.block o) y o rest
        go (Some x) (Some y) o st = m.ends x y (ending_by h.block o rest) st
        go None None (Some refusal) st = m.over refusal
        go None None None st = refl
        go (Some x) None o st = absurd st
        go None (Some y) o st = absurd st

  -- ---- the calls on the bytes behind block 0

  rest_same : {h : Held A} {l : List ℕ} {q : Printed} (k : Held B) → Same h k → Octets l → Rest (singly c) h l q → Rest (singly d) k l q
  rest_same k s o (more h piece behind room p r) =
      let g = blocks_same h k s piece room (subst Octets (take_at piece behind (length piece) refl) (octets_take (length piece) (piece ++ behind) o)) in
      let next = rest_same ((singly d).blocks k piece room).state g.state (octets_drop ((singly c).blocks h piece room).taken (piece ++ behind) o) r in
      let there = subst (λ (n : ℕ). Rest (singly d) ((singly d).blocks k piece room).state (drop n (piece ++ behind)) p) g.taken next in
      subst⁻¹ (λ (x : Printed). Rest (singly d) k (piece ++ behind) (both x p)) g.printed (more k piece behind room p there)
  rest_same k s o (done h l short) = subst⁻¹ (Rest (singly d) k l) (end_same h k s l) (done k l short)
  rest_same k s o (over h l rest ends) = subst⁻¹ (Rest (singly d) k l) (end_same h k s rest) (over k l rest (sym (going_same h k s) ∙ ends))

pub session_reads : SessionReads
session_reads A B c d trace q m o (began p r) =
    let first = take block_bytes trace in
    let start = m.starts first (octets_take block_bytes trace o) in
    let behind = rest_same m (started_by (d.start first)) (started m (c.start first) (d.start first) start.0) (octets_drop block_bytes trace o) r in
    subst⁻¹ (λ (l : List ℕ). Session (singly d) trace (both (record { out = l; err = [] }) p)) start.1 (began p behind)
