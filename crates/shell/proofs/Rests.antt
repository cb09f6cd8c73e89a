-- What is left of a piece, and one byte more after a failed read. Assumes nothing.
use mathlib.Core.Path.{◌≡◌, refl, sym, ap, ◌∙◌}
use mathlib.Core.List.{List, ◌++◌, append_assoc}
use Prim.Native.Nat.{ℕ, ◌+◌, ◌-◌, ◌≤◌, min}
use native.Mathlib.Omega.{arith}
use lib.ListN.{length, take, drop, take-append-drop}
use lib.Seq.{sets, length-sets, take_at, take-take, drop-drop, drop-append-le}
use Rattle.answers.proofs.Stores.{sets-front}
use Rattle.shell.specs.Fills.{end_of, ReadOn}
use Rattle.shell.specs.Transfers.{left_of, rest_of, read_of, Brought}
use Rattle.shell.specs.declared.reading.Input.{Input}
use Rattle.shell.specs.declared.transfers.Transfer.{Transfer}
use Rattle.shell.proofs.Lefts.{part_is, left_long}

module _ (t : Transfer) (piece : List ℕ) (inside : t.from ≤ min t.input.bytes (length piece)) where
  abbrev left : List ℕ
  left = left_of t piece

  abbrev rest : List ℕ
  rest = rest_of t piece

  abbrev extra : List ℕ
  extra = drop (length left) rest

  left_is : take (min t.input.bytes (length piece) - t.from) (drop t.from piece) ≡ left
  left_is = part_is piece t.from t.input.bytes refl (omega arith)

  rest_is : take (min (end_of t.input) (length piece) - t.from) (drop t.from piece) ≡ rest
  rest_is = part_is piece t.from (end_of t.input) refl (omega arith)

  rest_front : take (length left) rest ≡ left
  rest_front =
      let long = left_long t piece in
      let a = min t.input.bytes (length piece) - t.from in
      let b = min (end_of t.input) (length piece) - t.from in
      ap (take (length left)) (sym rest_is)
      ∙ ap (λ (k : ℕ). take k (take b (drop t.from piece))) long
      ∙ take-take a b (drop t.from piece) (omega arith)
      ∙ left_is

  pub rest_splits : (unread : List ℕ) → left ++ (extra ++ unread) ≡ rest ++ unread
  rest_splits unread = sym (append_assoc left extra unread) ∙ ap (λ (l : List ℕ). (l ++ extra) ++ unread) (sym rest_front) ∙ ap (λ (l : List ℕ). l ++ unread) (take-append-drop (length left) rest)

  -- what is left after so many bytes
  pub rest_after : (k : ℕ) (unread : List ℕ) → k ≤ length left
      → drop k (left ++ (extra ++ unread)) ≡ drop (t.from + min k (length left)) (take (end_of t.input) piece) ++ unread
  rest_after k unread h =
      let split : left ++ extra ≡ rest = ap (λ (l : List ℕ). l ++ extra) (sym rest_front) ∙ take-append-drop (length left) rest in
      let place : t.from + k ≡ t.from + min k (length left) = omega arith in
      drop-append-le k left (extra ++ unread) h
      ∙ sym (append_assoc (drop k left) extra unread)
      ∙ ap (λ (l : List ℕ). l ++ unread)
      (sym (drop-append-le k left extra h) ∙ ap (drop k) split ∙ drop-drop k t.from (take (end_of t.input) piece) ∙ ap (λ (n : ℕ). drop n (take (end_of t.input) piece)) place)

-- ---- a read after what is left

module _ (t : Transfer) (piece : List ℕ) {n : ℕ} {moved next : List ℕ} {r : Input} (k : n ≡ length (left_of t piece)) (m : moved ≡ sets piece 0 (left_of t piece))
    (e : ReadOn n moved r next) (long : length next ≡ length moved) where
  pub reads_on : Brought t piece (read_of t r) next
  reads_on =
      let same : length moved ≡ length piece = ap length m ∙ length-sets piece 0 (left_of t piece) in
      let short : length (left_of t piece) ≤ length piece = rw (left_long t piece) (omega arith) in
      let kept : take n moved ≡ left_of t piece =
      ap (take n) (m ∙ sets-front piece (left_of t piece) short) ∙ take_at (left_of t piece) (drop (length (left_of t piece)) piece) n (sym k)
      in
      record {
        filled =
            record {
              after = omega (arith, e.filled.after);
              inside = omega (arith, e.filled.inside);
              full = λ a. omega (arith, e.filled.full a);
              short = λ a. omega (arith, e.filled.short a);
            };
        front = ap (λ (i : ℕ). take i next) (sym k) ∙ e.front ∙ kept;
        long = long ∙ same;
        other = refl;
      }
