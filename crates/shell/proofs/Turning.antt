-- The next turn, test by test. Assumes nothing.
use mathlib.Core.Path.{◌≡◌, refl}
use mathlib.Core.Bool.{true, false, cond, not}
use mathlib.Core.List.{List}
use Prim.Native.Nat.{ℕ, ◌≤◌, ◌<◌}
use borrow.Author.Tests.{le-leb, lt-leb}
use lib.Dec.{leb}
use lib.ListN.{length}
use Rattle.answers.proofs.Conditions.{cond_ends, cond_goes}
use Rattle.shell.specs.Transfers.{left_of}
use Rattle.shell.specs.Turns.{is_due, last_of, turn_of}
use Rattle.shell.specs.declared.transfers.Transfer.{Transfer}
use Rattle.shell.specs.declared.turns.Turn.{Turn}
use Rattle.shell.specs.declared.turns.Turn.TheVariants.{Take, Print, Finish, Stop}

module _ (t : Transfer) (piece : List ℕ) where
  abbrev last : Turn
  last = cond (leb 512 (length (left_of t piece))) Take (last_of t.input.ahead)

  abbrev ended : Turn
  ended = cond (not t.going) Finish last

  abbrev written : Turn
  written = cond (is_due t) Print ended

  pub turn_stops : t.out.failed ≡ true → Stop ≡ turn_of t piece
  unfolding turn_of
  turn_stops e = cond_ends t.out.failed Stop written Stop e refl

  module _ (whole : t.out.failed ≡ false) where
    pub turn_prints : is_due t ≡ true → Print ≡ turn_of t piece
    unfolding turn_of
    turn_prints e = cond_goes t.out.failed Stop written Print whole (cond_ends (is_due t) Print ended Print e refl)

    module _ (less : is_due t ≡ false) where
      goes : (z : Turn) → z ≡ ended → z ≡ turn_of t piece
      unfolding turn_of
      goes z e = cond_goes t.out.failed Stop written z whole (cond_goes (is_due t) Print ended z less e)

      pub turn_finishes : not t.going ≡ true → Finish ≡ turn_of t piece
      turn_finishes e = goes Finish (cond_ends (not t.going) Finish last Finish e refl)

      pub turn_takes : not t.going ≡ false → 512 ≤ length (left_of t piece) → Take ≡ turn_of t piece
      turn_takes e h =
          goes Take
          (cond_goes (not t.going) Finish last Take e (cond_ends (leb 512 (length (left_of t piece))) Take (last_of t.input.ahead) Take (le-leb 512 _ h) refl))

      pub turn_is_last : not t.going ≡ false → length (left_of t piece) < 512 → last_of t.input.ahead ≡ turn_of t piece
      turn_is_last e h =
          let z = last_of t.input.ahead in
          goes z (cond_goes (not t.going) Finish last z e (cond_goes (leb 512 (length (left_of t piece))) Take z z (lt-leb 512 _ h) refl))
