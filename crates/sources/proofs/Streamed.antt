-- The calls over a trace follow the program ecnstreams, and their end has room. Assumes nothing.
use Rattle.std.specs.Prelude.{Option, Some, None, Result, Ok, Err}
use mathlib.Core.Path.{◌≡◌, refl, sym, ap, ◌∙◌, subst}
use mathlib.Core.Bool.{Bool, cond}
use mathlib.Core.List.{List, [], ◌∷◌}
use Prim.Native.Nat.{ℕ, suc, ◌+◌, ◌-◌, ◌^◌, ◌<◌}
use native.Mathlib.Omega.{arith}
use borrow.Author.Tests.{le-ltb}
use lib.Dec.{ltb}
use lib.ListN.{length}
use Rattle.answers.specs.declared.Refusal.{Refusal}
use Rattle.answers.specs.declared.Refusal.TheVariants.{Incomplete}
use Rattle.format.specs.Blocks.{block_bytes}
use Rattle.trace.specs.Reading.{block_of}
use Rattle.trace.specs.declared.Block.{Block}
use Rattle.trace.specs.declared.Block.TheVariants as read
use Rattle.trace.proofs.Decisions.{not_whole}
use Rattle.walk.specs.Programs.{Printed, nothing, both, to_output, Turn}
use Rattle.walk.specs.Steps.{Next, goes, refuses}
use Rattle.walk.specs.Pieces.{Octets, wholes, whole_in}
use Rattle.walk.specs.Fitting.{Took, none_taken, one_more, fitting}
use Rattle.walk.specs.Endings.{is_going}
use Rattle.walk.specs.Machines.{Standing, begun_by, fitting_by, ending_by, goes_on, Gives, Follows}
use Rattle.walk.proofs.Pieces.{whole_many, octets_wholes}
use Rattle.walk.proofs.Fits.{fitting_fits, fitting_keeps}
use Rattle.walk.proofs.Standing.{ended_back, number_small}
use Rattle.walk.proofs.Sessions.{fitting_gives, session_prints}
use Rattle.table.specs.Lines.{head_bytes}
use Rattle.sources.specs.declared.runs.Run.{Run}
use Rattle.sources.specs.declared.runs.Step.{Step}
use Rattle.sources.specs.Runs.{start_by, start_of, next_by, next_of}
use Rattle.sources.specs.Rows.{rows_fault}
use Rattle.sources.specs.Streams.{Kept, begun, taken, closing, ecnstreams, printed}
use Rattle.sources.specs.Pieces.{begin_by, begin_of, standing, took_of, piece_fault, end_of, end_fault, end_by, Held, gave_by, calls, TracePrints}
use Rattle.sources.proofs.NextRuns.{Whole, next_whole, rows_stay, start_whole, start_rows}

-- ---- a block's turn

-- a part of a block is refused with 1
pub short_turn : (i : ℕ) (k : Kept) (b : List ℕ) → length b < block_bytes → ecnstreams.step i k b ≡ record { state = k; printed = nothing; refusal = Some Incomplete }
unfolding next_of
short_turn i k b less = ap (λ (r : Result Block Refusal). taken k (next_by k.run b r)) (sym (not_whole b (λ e. omega (arith, e))))

-- what is kept: a whole run, of that block 0
pub record Sound (zeroth : List ℕ) (k : Kept) : Type 0 where
  pub whole : Whole k.run
  pub rows : rows_fault k.run zeroth ≡ None
  pub same : k.zeroth ≡ zeroth

pub turn_keeps : (zeroth : List ℕ) (i : ℕ) (k : Kept) (b : List ℕ) → Sound zeroth k → Octets b → Sound zeroth (ecnstreams.step i k b).state
turn_keeps zeroth i k b s o = go (next_of k.run b) refl
  where
    go : (n : Next Run) → next_of k.run b ≡ n → Sound zeroth (taken k n).state
    go (goes next) e = record { whole = next_whole k.run b next o s.whole e; rows = rows_stay k.run b next zeroth o s.whole s.rows e; same = s.same }
    go (refuses refusal) e = s

turn_silent : (i : ℕ) (k : Kept) (b : List ℕ) → (ecnstreams.step i k b).printed ≡ nothing
turn_silent i k b = go (next_of k.run b)
  where
    go : (n : Next Run) → (taken k n).printed ≡ nothing
    go (goes next) = refl
    go (refuses refusal) = refl

-- nothing is printed for the blocks of a piece
pub fitting_silent : (i : ℕ) (bs : List (List ℕ)) (k : Kept) (room : ℕ) → (fitting ecnstreams i bs k room).printed ≡ nothing
unfolding fitting
fitting_silent i [] k room = refl
fitting_silent i (b ∷ bs) k room = go (ecnstreams.step i k b) (turn_silent i k b) (λ s n. fitting_silent (suc i) bs s n)
  where
    more : (t : Turn Kept) (o : Option Refusal) (w : Took Kept) → t.printed ≡ nothing → w.printed ≡ nothing → (one_more t o w).printed ≡ nothing
    more t None w e f = λ j. both (e j) (f j)
    more t (Some refusal) w e f = e

    go : (t : Turn Kept) → t.printed ≡ nothing → ((s : Kept) (n : ℕ) → (fitting ecnstreams (suc i) bs s n).printed ≡ nothing)
        → (cond (ltb room (length t.printed.out)) (none_taken k) (one_more t t.refusal (fitting ecnstreams (suc i) bs t.state (room - length t.printed.out)))).printed ≡ nothing
    go t e later =
        ap (λ (q : Printed). (cond (ltb room (length q.out)) (none_taken k) (one_more t t.refusal (fitting ecnstreams (suc i) bs t.state (room - length t.printed.out)))).printed) e
        ∙ ap (λ (c : Bool). (cond c (none_taken k) (one_more t t.refusal (fitting ecnstreams (suc i) bs t.state (room - length t.printed.out)))).printed) (le-ltb room 0 (omega arith))
        ∙ more t t.refusal (fitting ecnstreams (suc i) bs t.state (room - length t.printed.out)) e (later t.state (room - length t.printed.out))

-- ---- the calls

-- a held progress stands for the program's run; one that goes on is sound
record StandsFor (h : Held) (s : Standing Kept) : Type 0 where
  standing : standing h.progress h.zeroth ≡ s
  sound : h.progress.ended ≡ None → Sound h.zeroth (record { run = h.progress.run; zeroth = h.zeroth })

never : {e : Option Refusal} {r : Refusal} → e ≡ Some r → e ≡ None → ⊥
never e f = let z : ◌≡◌ {A = ℕ} 0 1 = cc in omega arith

-- block 0
abbrev Begun : List ℕ → Step → Type 0
Begun b r = StandsFor (record { progress = begin_by (begun b r); zeroth = b }) (begun_by (begun b r)) × (to_output head_bytes ≡ (begun b r).printed)

begins_by : (b : List ℕ) (r : Result Block Refusal) → block_of b ≡ r → Begun b (start_by r)
begins_by b (Ok (read.Label form n ssrc)) e = (record { standing = refl; sound = λ q. record { whole = start_whole b e; rows = start_rows b e; same = refl } }, refl)
begins_by b (Ok (read.Arrivals form n ssrc)) e = (record { standing = refl; sound = λ q. absurd (never refl q) }, refl)
begins_by b (Err refusal) e = (record { standing = refl; sound = λ q. absurd (never refl q) }, refl)

begins : (b : List ℕ) → StandsFor (calls.begin b).state (begun_by (ecnstreams.begin b)) × ((calls.begin b).printed ≡ (ecnstreams.begin b).printed)
unfolding begin_of start_of
begins b = begins_by b (block_of b) refl

module _ (h : Held) (piece : List ℕ) (room : ℕ) (o : Octets piece) (few : h.progress.block + wholes piece < 2 ^ 64)
    (sound : h.progress.ended ≡ None → Sound h.zeroth (record { run = h.progress.run; zeroth = h.zeroth })) where
  abbrev here : Standing Kept
  here = standing h.progress h.zeroth

  gives_by : (e : Option Refusal) → h.progress.ended ≡ e
      → Gives StandsFor here (fitting_by ecnstreams here e piece room) (gave_by h (fitting_by ecnstreams here e piece room) (piece_fault h.progress h.zeroth e))
  gives_by (Some refusal) q =
      let number = number_small h.progress.block 0 (omega arith) in
      record {
        stands = record {
          standing = λ i. record { state = here.state; block = number i; refusal = Some refusal };
          sound = λ q. absurd (never refl q);
        };
        taken = refl;
        printed = refl;
      }
  gives_by None q =
      let w = fitting ecnstreams here.block (whole_in piece) here.state room in
      let small = (fitting_fits Kept ecnstreams here.block (whole_in piece) here.state room).1 in
      let number = number_small here.block w.taken (omega (arith, small, whole_many piece, few)) in
      let kept = fitting_keeps ecnstreams (Sound h.zeroth) (turn_keeps h.zeroth) here.block (whole_in piece) here.state room (sound q) (octets_wholes piece o) in
      let back = ended_back w.refusal in
      rw (sound q).rows
      (record {
        stands = record {
          standing = λ i. record { state = record { run = w.state.run; zeroth = sym kept.same i }; block = number i; refusal = back i };
          sound = λ q. record { whole = kept.whole; rows = kept.rows; same = refl };
        };
        taken = refl;
        printed = sym (fitting_silent here.block (whole_in piece) here.state room);
      })

  gives : Gives StandsFor here (fitting_by ecnstreams here here.refusal piece room) (calls.blocks h piece room)
  unfolding took_of
  gives = gives_by h.progress.ended refl

going_by : (e : Option Refusal) → is_going e ≡ goes_on e
going_by None = refl
going_by (Some refusal) = refl

-- no row is refused
ends_as : (h : Held) (rest : List ℕ) → (h.progress.ended ≡ None → Sound h.zeroth (record { run = h.progress.run; zeroth = h.zeroth }))
    → calls.end h rest ≡ ecnstreams.close (standing h.progress h.zeroth).state (ending_by h.progress.block h.progress.ended rest)
unfolding end_of
ends_as h rest sound = ap (end_by (closing (standing h.progress h.zeroth).state (ending_by h.progress.block h.progress.ended rest))) (go h.progress.ended refl rest)
  where
    go : (e : Option Refusal) → h.progress.ended ≡ e → (rest : List ℕ) → end_fault h.progress h.zeroth e rest ≡ None
    go None q [] = (sound q).rows
    go None q (c ∷ rest) = refl
    go (Some refusal) q rest = refl

pub follows : Follows calls ecnstreams
follows = record {
  Stands = StandsFor;
  going = λ h s st. going_by h.progress.ended ∙ ap (λ (s : Standing Kept). goes_on s.refusal) st.standing;
  begins = λ b o. begins b;
  takes = λ h s piece room st o few.
      fitting_gives ecnstreams s s.refusal piece room
      (subst (λ (s : Standing Kept). Gives StandsFor s (fitting_by ecnstreams s s.refusal piece room) (calls.blocks h piece room)) st.standing
      (gives h piece room o (omega (arith, few, ap (λ (s : Standing Kept). s.block) st.standing)) st.sound));
  ends = λ h s rest st. ends_as h rest st.sound ∙ ap (λ (s : Standing Kept). ecnstreams.close s.state (ending_by s.block s.refusal rest)) st.standing;
  parts = λ i s b more less. short_turn i s b less;
}

pub trace_prints : TracePrints
unfolding printed
trace_prints trace q o few session = session_prints Held Kept calls ecnstreams trace q follows o few session
