-- The loop over the blocks of known sources, and what it gives to the loop over all blocks of a piece. Assumes nothing.
use Rattle.std.specs.Prelude.{Some, None}
use mathlib.Core.Path.{◌≡◌, refl, sym, ap, ◌∙◌}
use mathlib.Core.List.{List, []}
use Prim.Native.Nat.{ℕ, ◌+◌, ◌-◌, ◌≤◌, ◌<◌}
use native.Mathlib.Omega.{arith}
use lib.ListN.{length, get_or, set, take, drop}
use lib.Seq.{sets}
use Rattle.answers.specs.declared.Refusal.{Refusal}
use Rattle.numbers.proofs.BigEndian.{Octets}
use Rattle.numbers.proofs.Octets.{octets_take, octets_drop}
use Rattle.format.specs.Blocks.{block_bytes}
use Rattle.walk.specs.Programs.{nothing}
use Rattle.walk.specs.Steps.{goes, refuses}
use Rattle.walk.proofs.Loops.{Going, going_first, going_last, going_taken, going_refused}
use Rattle.sources.specs.declared.Place.{Place}
use Rattle.sources.specs.declared.runs.Tally.{Tally}
use Rattle.sources.specs.declared.runs.Run.{Run}
use Rattle.sources.specs.Places.{empty_place}
use Rattle.sources.specs.Tallies.{no_tally}
use Rattle.sources.specs.Runs.{next_of}
use Rattle.sources.specs.Known.{IsRenewed, Onward, here, then}
use Rattle.sources.specs.Streams.{Kept, taken, ecnstreams}
use Rattle.sources.specs.Pieces.{TakesWhole}
use Rattle.sources.proofs.HeldHere.{renewed_here}
use Rattle.sources.proofs.NextRuns.{Whole, next_whole}

-- ---- the loop over known sources

pub record Loop (piece : List ℕ) (start : Run) (from : ℕ) (run : Run) (at : ℕ) : Type 0 where
  pub onward : Onward piece start from run at
  pub whole : Whole run
  pub within : at ≤ length piece

block_octets : (piece : List ℕ) (at n : ℕ) → Octets piece → Octets (take n (drop at piece))
block_octets piece at n o = octets_take n (drop at piece) (octets_drop at piece o)

pub loop_turn : {piece : List ℕ} {start : Run} {from : ℕ} {run : Run} {at : ℕ} → Loop piece start from run at → block_bytes ≤ length piece - at → Octets piece
    → (i : ℕ) {place : Place} {tally : Tally}
    → IsRenewed run.form (get_or run.table.places i empty_place) (get_or run.tallies i no_tally) (take (at + block_bytes - at) (drop at piece)) place tally
    → Loop piece start from (record { form = run.form; length = run.length; table = record { places = set run.table.places i place; count = run.table.count }; tallies = set run.tallies i tally }) (at + block_bytes)
loop_turn {piece} {start} {from} {run} {at} l h o i {place} {tally} r =
    let size : at + block_bytes - at ≡ block_bytes = omega arith in
    let same = ap (λ (n : ℕ). take n (drop at piece)) size in
    let does = sym (ap (next_of run) same) ∙ renewed_here run l.whole.good l.whole.long (take (at + block_bytes - at) (drop at piece)) i r in
    let inside : at + block_bytes ≤ length piece = let w = l.within in omega arith in
    record {
      onward = then run _ at l.onward inside does;
      whole = next_whole run (take block_bytes (drop at piece)) _ (block_octets piece at block_bytes o) l.whole does;
      within = inside;
    }

-- ---- the loop over all blocks

abbrev pub kept : Run → List ℕ → Kept
kept run zeroth = record { run = run; zeroth = zeroth }

pub record Taking (start : Run) (piece : List ℕ) (run : Run) (at : ℕ) : Type 0 where
  pub whole : Whole run
  pub within : at ≤ length piece
  pub going : (first : ℕ) (zeroth old : List ℕ) → Going ecnstreams first piece old (kept start zeroth) (kept run zeroth) at old 0

pub taking_first : {start : Run} {piece : List ℕ} → Whole start → Taking start piece start 0
taking_first {start} {piece} w = record { whole = w; within = omega arith; going = λ first zeroth old. going_first ecnstreams first piece old (kept start zeroth) }

turn_goes : (i : ℕ) (run : Run) (zeroth b : List ℕ) {next : Run} → next_of run b ≡ goes next → ecnstreams.step i (kept run zeroth) b ≡ record { state = kept next zeroth; printed = nothing; refusal = None }
turn_goes i run zeroth b e = ap (taken (kept run zeroth)) e

turn_refuses : (i : ℕ) (run : Run) (zeroth b : List ℕ) {refusal : Refusal} → next_of run b ≡ refuses refusal
    → ecnstreams.step i (kept run zeroth) b ≡ record { state = kept run zeroth; printed = nothing; refusal = Some refusal }
turn_refuses i run zeroth b e = ap (taken (kept run zeroth)) e

none_set : (old : List ℕ) → old ≡ sets old 0 []
none_set old = refl

module _ {start : Run} {piece : List ℕ} (o : Octets piece) where
  one_more_lem : {run : Run} {at : ℕ} → Taking start piece run at → at + block_bytes ≤ length piece → {next : Run} → next_of run (take block_bytes (drop at piece)) ≡ goes next
      → Taking start piece next (at + block_bytes)
  one_more_lem {run} {at} t h {next} e = record {
    whole = next_whole run (take block_bytes (drop at piece)) next (block_octets piece at block_bytes o) t.whole e;
    within = h;
    going = λ first zeroth old.
        going_taken ecnstreams first piece old (kept start zeroth) (t.going first zeroth old) h (kept next zeroth) []
        (turn_goes (first + (t.going first zeroth old).done) run zeroth (take block_bytes (drop at piece)) e) refl (omega arith) (none_set old);
  }

  pub taking_onward : {run : Run} {at : ℕ} → Taking start piece run at → {later : Run} {end : ℕ} → Onward piece run at later end → Taking start piece later end
  taking_onward t here = t
  taking_onward t (then run next at on h e) = one_more_lem (taking_onward t on) h e

  module _ {run : Run} {at : ℕ} (t : Taking start piece run at) where
    pub taking_last : length piece - at < block_bytes → TakesWhole start piece run at None
    taking_last h first zeroth old = going_last ecnstreams first piece old (kept start zeroth) (t.going first zeroth old) (omega (arith, h, t.within))

    module _ (h : block_bytes ≤ length piece - at) where
      inside : at + block_bytes ≤ length piece
      inside = let w = t.within in omega arith

      same : take (at + block_bytes - at) (drop at piece) ≡ take block_bytes (drop at piece)
      same = let size : at + block_bytes - at ≡ block_bytes = omega arith in ap (λ (n : ℕ). take n (drop at piece)) size

      pub taking_more : {next : Run} → next_of run (take (at + block_bytes - at) (drop at piece)) ≡ goes next → Taking start piece next (at + block_bytes)
      taking_more e = one_more_lem t inside (sym (ap (next_of run) same) ∙ e)

      pub taking_refused : {refusal : Refusal} → next_of run (take (at + block_bytes - at) (drop at piece)) ≡ refuses refusal → TakesWhole start piece run at (Some refusal)
      taking_refused {refusal} e first zeroth old =
          going_refused ecnstreams first piece old (kept start zeroth) (t.going first zeroth old) inside refusal
          (turn_refuses (first + (t.going first zeroth old).done) run zeroth (take block_bytes (drop at piece)) (sym (ap (next_of run) same) ∙ e))

pub onward_on : {piece : List ℕ} {start : Run} {from : ℕ} {run : Run} {at : ℕ} → Onward piece start from run at → from ≤ at
onward_on here = omega arith
onward_on (then run next at on h e) = let l = onward_on on in omega arith
