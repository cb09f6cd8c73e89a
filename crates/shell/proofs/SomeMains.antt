-- The theorems on a main are applied to values: a trace of two blocks, the second of which arrives in two parts, and an empty one. Assumes nothing.
use Rattle.std.specs.Prelude.{Option, Some, None}
use mathlib.Core.Path.{◌≡◌, refl}
use mathlib.Core.Bool.{Bool, true, false}
use mathlib.Core.List.{List, [], ◌++◌}
use Prim.Native.Nat.{ℕ, ◌-◌, ◌%◌, ◌<◌}
use native.Mathlib.Omega.{arith}
use borrow.Author.Tests.{lt-leb}
use lib.Dec.{leb}
use lib.IntN.{pos}
use lib.ListN.{length, replicate}
use Rattle.answers.specs.declared.Refusal.{Refusal}
use Rattle.answers.specs.declared.Refusal.TheVariants.{Incomplete}
use Rattle.walk.specs.Endings.{is_going}
use Rattle.walk.specs.Machines.{Machine, Standing, took_by, Gives, Follows}
use Rattle.walk.specs.Programs.{nothing, Turn, Program}
use Rattle.shell.specs.Fills.{unread_of}
use Rattle.shell.specs.Kept.{empty_of}
use Rattle.shell.specs.Transfers.{begun_of, read_of, taken_of, ready_of}
use Rattle.shell.specs.Turns.{is_due, turn_of}
use Rattle.shell.specs.Sessions.{Reads, take-turn, read_turn, finish_turn, Main, begun, Sound}
use Rattle.shell.specs.declared.reading.Ahead.TheVariants.{More, End}
use Rattle.shell.specs.declared.reading.Input.{Input}
use Rattle.shell.specs.declared.transfers.Transfer.{Transfer}
use Rattle.shell.proofs.Asked.{none_of}
use Rattle.shell.proofs.Sessions.{main_is_session, main_prints}

abbrev block : List ℕ
block = replicate 512 0

abbrev full : Input
full = record { bytes = 512; ahead = More }

abbrev empty : Input
empty = record { bytes = 0; ahead = End }

-- the first 100 bytes of a block
abbrev part : Input
part = record { bytes = 100; ahead = More }

zeroth_reads : Reads 512 [] full block (block ++ block) block
unfolding unread_of
zeroth_reads =
    record {
      filled = record { after = omega arith; inside = omega arith; full = λ m. omega arith; short = λ f. none_of (cc) };
      bytes = refl;
      last = λ e. none_of (cc);
    }

part_reads : Reads 1 [] part block block (replicate 412 0)
unfolding unread_of
part_reads =
    record {
      filled = record { after = omega arith; inside = omega arith; full = λ m. omega arith; short = λ f. none_of (cc) };
      bytes = refl;
      last = λ e. none_of (cc);
    }

other_reads : Reads 101 (replicate 100 0) full block (replicate 412 0) []
unfolding unread_of
other_reads =
    record {
      filled = record { after = omega arith; inside = omega arith; full = λ m. omega arith; short = λ f. none_of (cc) };
      bytes = refl;
      last = λ e. none_of (cc);
    }

empty_reads : (enough : ℕ) → 0 < enough → Reads enough [] empty block [] []
unfolding unread_of
empty_reads enough h =
    record {
      filled = record { after = omega arith; inside = omega arith; full = λ m. none_of (cc); short = λ f. h };
      bytes = refl;
      last = λ e. refl;
    }

-- ---- calls that take all whole blocks and print nothing

abbrev ended_by : Bool → Option Refusal
ended_by true = None
ended_by false = Some Incomplete

abbrev taking : Machine Bool
taking =
    record {
      begin = λ b. record { state = leb 512 (length b); taken = 0; printed = nothing };
      blocks = λ h piece room. record { state = h; taken = length piece - length piece % 512; printed = nothing };
      end = λ h rest. nothing;
      going = λ h. h;
    }

taking_sound : Sound taking ended_by
taking_sound = record { going = goes; short = λ b h. lt-leb 512 (length b) h; whole = λ h piece room. omega arith; inside = λ h piece room. omega arith }
  where
    goes : (h : Bool) → h ≡ is_going (ended_by h)
    goes true = refl
    goes false = refl

-- block 0 and a block of a piece, and then the end
abbrev start : Transfer
start = begun_of full None true

abbrev begins : Transfer
begins = read_of start part

abbrev last : Transfer
last = taken_of (read_of begins full) None 512 block

taking_main : Main taking ended_by (block ++ block) nothing
unfolding turn_of is_due ready_of unread_of
taking_main =
    begun full true block block block (empty_of (pos 1)) (empty_of (pos 2)) nothing refl zeroth_reads
    (read_turn true start block block block (replicate 412 0) part nothing refl part_reads
    (read_turn true begins block block (replicate 412 0) [] full nothing refl other_reads
    (take-turn true (read_of begins full) block [] 0 (empty_of (pos 1)) (empty_of (pos 2)) nothing refl (λ e. omega arith)
    (read_turn true last block block [] [] empty nothing refl (empty_reads 1 (omega arith)) (finish_turn true (read_of last empty) block [] refl)))))

-- ---- calls that refuse every block 0, and the program that they follow

abbrev refusing : Machine (Unit {0})
refusing =
    record {
      begin = λ b. record { state = tt; taken = 0; printed = nothing };
      blocks = λ h piece room. record { state = tt; taken = 0; printed = nothing };
      end = λ h rest. nothing;
      going = λ h. false;
    }

abbrev refused : Unit {0} → Turn (Unit {0})
refused s = record { state = s; printed = nothing; refusal = Some Incomplete }

abbrev refuser : Program (Unit {0})
refuser = record { begin = λ b. refused tt; step = λ i s b. refused s; close = λ s ending. nothing }

abbrev stopped : Unit {0} → Option Refusal
stopped h = Some Incomplete

abbrev Stands : Unit {0} → Standing (Unit {0}) → Type 0
Stands h s = s.refusal ≡ Some Incomplete

takes_none : (s : Standing (Unit {0})) (o : Option Refusal) (piece : List ℕ) → o ≡ Some Incomplete
    → Gives Stands s (took_by refuser s o piece 0) (record { state = tt; taken = 0; printed = nothing })
takes_none s None piece e = none_of (cc)
takes_none s (Some refusal) piece e = record { stands = e; taken = refl; printed = refl }

follows : Follows refusing refuser
follows =
    record {
      Stands = Stands;
      going = λ h s e. rw e;
      begins = λ b o. (refl, refl);
      takes = λ h s piece room e o few. (0, takes_none s s.refusal piece e);
      ends = λ h s rest e. refl;
      parts = λ i s b h k. refl;
    }

refusing_sound : Sound refusing stopped
refusing_sound = record { going = λ h. refl; short = λ b h. refl; whole = λ h piece room. refl; inside = λ h piece room. omega arith }

refusing_main : Main refusing stopped [] nothing
unfolding turn_of is_due ready_of unread_of
refusing_main =
    begun empty false block [] [] (empty_of (pos 1)) (empty_of (pos 2)) nothing refl (empty_reads 512 (omega arith)) (finish_turn tt (begun_of empty (Some Incomplete) false) [] [] refl)

used : Unit {0}
used =
    let session = main_is_session Bool taking ended_by (block ++ block) nothing taking_sound taking_main in
    let prints = main_prints _ _ refusing refuser stopped [] nothing follows refusing_sound (λ i. omega arith) (omega arith) refusing_main in
    tt
