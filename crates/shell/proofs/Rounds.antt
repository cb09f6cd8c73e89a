-- A program's turns cannot go round for ever. Assumes nothing.
use Rattle.std.specs.Prelude.{None}
use mathlib.Core.Path.{◌≡◌, refl, ap, ◌∙◌}
use mathlib.Core.Bool.{Bool, true, false, cond, not, ◌&&◌, ◌||◌}
use mathlib.Core.List.{List, []}
use Prim.Native.Nat.{ℕ, ◌+◌, ◌-◌, ◌*◌, ◌%◌, ◌≤◌, ◌<◌, min}
use native.Mathlib.Omega.{arith}
use borrow.Author.Tests.{leb-true, leb-false, lt-leb, le-ltb, ltb-true}
use lib.Dec.{leb, ltb}
use lib.IntN.{ℤ, pos}
use lib.ListN.{length, replicate}
use Rattle.walk.specs.Endings.{is_going}
use Rattle.shell.specs.Fills.{is_failure}
use Rattle.shell.specs.Kept.{empty_of, Moved}
use Rattle.shell.specs.Transfers.{left_of, begun_of, read_of, taken_of, put_of, ready_of, Brought}
use Rattle.shell.specs.Turns.{is_due, turn_of}
use Rattle.shell.specs.Rounds.{one, to_do, TakeLessens, PrintLessens, ReadBrings, LastFinishes}
use Rattle.shell.specs.declared.printing.Output.{Output}
use Rattle.shell.specs.declared.reading.Ahead.{Ahead}
use Rattle.shell.specs.declared.reading.Ahead.TheVariants.{More, End, Failure}
use Rattle.shell.specs.declared.reading.Input.{Input}
use Rattle.shell.specs.declared.transfers.Transfer.{Transfer}
use Rattle.shell.proofs.Asked.{none_of, take-asks, print_asks, read_asks, ends_if}
use Rattle.shell.proofs.Lefts.{left_long}

-- ---- a take

one_most : (b : Bool) → one b ≤ 1
one_most true = omega arith
one_most false = omega arith

lessened : (left after : ℕ) (due due' going : Bool) → due ≡ false → going ≡ true → after ≤ left → 2 * after + one due' < 2 * (left + one going) + one due
lessened left after due due' going d g h = let most = one_most due' in rw (d, g) (omega arith)

-- of what is left, and of whether the run goes on, one falls
falls : (left from top bytes after : ℕ) (going : Bool) → left ≡ top - from → 512 ≤ left → after ≡ top - (from + min bytes left) → after + one (going && ltb 0 bytes) ≤ left
falls left from top bytes after going l h a = go (ltb 0 bytes) refl going
  where
    go : (some : Bool) → ltb 0 bytes ≡ some → (g : Bool) → after + one (g && some) ≤ left
    go true e true = let some = ltb-true 0 bytes e in omega arith
    go true e false = omega arith
    go false e true = omega arith
    go false e false = omega arith

pub take-lessens : TakeLessens
unfolding turn_of to_do
take-lessens t piece ended bytes out err e =
    let asked = take-asks t.out.failed (is_due t) t.going (leb 512 (length (left_of t piece))) t.input.ahead e in
    let r = put_of (taken_of t ended bytes piece) out err in
    lessened (length (left_of t piece)) (length (left_of r piece) + one r.going) (is_due t) (is_due r) t.going asked.0 asked.1
    (falls (length (left_of t piece)) t.from (min t.input.bytes (length piece)) bytes (length (left_of r piece)) (is_going ended) (left_long t piece)
    (leb-true 512 (length (left_of t piece)) asked.2) (left_long r piece))

-- ---- a print

-- nothing is kept, or less than a piece
none_ready : (prompt : Bool) (used kept : ℕ) → kept ≤ used - cond prompt used (used - used % 262144) → cond prompt kept (kept - kept % 262144) ≤ 0
none_ready true used kept h = omega arith
none_ready false used kept h = omega arith

less_kept : (t r : Transfer) {out out' : Output} {old new : List ℕ} → r.prompt ≡ t.prompt → Moved (ready_of t out.used) out old out' new → ltb 0 (ready_of r out'.used) ≡ false
unfolding ready_of
less_kept t r {out} {out'} e m = rw e (le-ltb 0 _ (none_ready t.prompt out.used out'.used (omega (arith, m.fewer))))

not_due : (failed a b : Bool) → a ≡ false → b ≡ false → (not failed && (a || b)) ≡ false
not_due true a b e f = refl
not_due false a b e f = rw (e, f)

pub print_lessens : PrintLessens
unfolding turn_of to_do is_due
print_lessens t r piece lines told lines' told' e f =
    let due = print_asks t.out.failed (is_due t) t.going (leb 512 (length (left_of t piece))) t.input.ahead e in
    let same : r.prompt ≡ t.prompt = ap (λ (x : Transfer). x.prompt) f.other in
    let less : is_due r ≡ false =
    not_due (is_failure r.input.ahead) (ltb 0 (ready_of r r.out.used)) (ltb 0 (ready_of r r.err.used)) (less_kept t r same f.out) (less_kept t r same f.err)
    in
    let left : length (left_of r piece) ≡ length (left_of t piece) = ap (λ (x : Transfer). length (left_of x piece)) f.other in
    let going : r.going ≡ t.going = ap (λ (x : Transfer). x.going) f.other in
    rw (due, less, left, going) (omega arith)

-- ---- a read

pub read_brings : ReadBrings
unfolding turn_of
read_brings t r piece next h e b m =
    let asked = read_asks t.out.failed (is_due t) t.going (leb 512 (length (left_of t piece))) t.input.ahead e in
    let short = leb-false 512 (length (left_of t piece)) asked.1 in
    let first : r.from ≡ 0 = ap (λ (x : Transfer). x.from) b.other in
    let long = left_long r next in
    let full = b.filled.full (rw m) in
    omega (arith, b.filled.inside, b.long)

-- nothing is to be printed after it: it was not before
due_stays : (a b : Ahead) (kept : Bool) → a ≡ More → (not (is_failure a) && kept) ≡ false → (not (is_failure b) && kept) ≡ false
due_stays a More kept m e = rw (m) at e
due_stays a End kept m e = rw (m) at e
due_stays a Failure kept m e = refl

pub last_finishes : LastFinishes
unfolding turn_of is_due ready_of
last_finishes t r piece next e b m =
    let asked = read_asks t.out.failed (is_due t) t.going (leb 512 (length (left_of t piece))) t.input.ahead e in
    let before = leb-false 512 (length (left_of t piece)) asked.1 in
    let few = b.filled.short m in
    let long = left_long r next in
    let short : leb 512 (length (left_of r next)) ≡ false = lt-leb 512 (length (left_of r next)) (omega arith) in
    let failed : r.out.failed ≡ false = ap (λ (x : Transfer). x.out.failed) b.other ∙ asked.3 in
    let going : r.going ≡ true = ap (λ (x : Transfer). x.going) b.other ∙ asked.0 in
    let same : is_due r ≡ is_due (read_of t r.input) = ap is_due b.other in
    let due : is_due r ≡ false =
    same ∙ due_stays t.input.ahead r.input.ahead (ltb 0 (ready_of t t.out.used) || ltb 0 (ready_of t t.err.used)) asked.2 asked.4
    in
    ends_if r.out.failed (is_due r) r.going (leb 512 (length (left_of r next))) r.input.ahead failed due going short m

-- ---- each is applied to values

-- a piece of one block, all of which is left
piece : List ℕ
piece = replicate 512 0

abbrev input : Input
input = record { bytes = 512; ahead = More }

-- output that is not prompt, of which so much is kept
abbrev some : ℕ → Transfer
some used = put_of (read_of (begun_of input None false) input) (record { fd = pos 1; used = used; wrote = 0; failed = false }) (empty_of (pos 2))

-- prompt output, of which so much is kept
abbrev prompt : ℕ → Transfer
prompt used = put_of (read_of (begun_of input None true) input) (record { fd = pos 1; used = used; wrote = 0; failed = false }) (empty_of (pos 2))

-- with no buffer lent nothing is moved
moved : (bytes used : ℕ) (fd : ℤ) → Moved bytes (record { fd = fd; used = used; wrote = 0; failed = false }) [] (empty_of fd) []
moved bytes used fd = record { same = refl; fewer = omega arith; front = refl; whole = λ f. omega arith; still = λ f. f }

-- 100 bytes of a block are left, and a byte comes
abbrev part : Transfer
part = read_of (some 0) (record { bytes = 100; ahead = More })

abbrev longer : Input
longer = record { bytes = 101; ahead = More }

brought : Brought part piece (read_of part longer) piece
unfolding piece
brought =
    record {
      filled = record { after = omega arith; inside = omega arith; full = λ m. omega arith; short = λ f. none_of (cc) };
      front = refl;
      long = refl;
      other = refl;
    }

-- or the read fails
abbrev failing : Input
failing = record { bytes = 100; ahead = Failure }

failed : Brought part piece (read_of part failing) piece
unfolding piece
failed =
    record {
      filled = record { after = omega arith; inside = omega arith; full = λ m. none_of (cc); short = λ f. omega arith };
      front = refl;
      long = refl;
      other = refl;
    }

used : Unit {0}
unfolding turn_of is_due ready_of piece
used =
    let take = take-lessens (some 0) piece None 512 (empty_of (pos 1)) (empty_of (pos 2)) refl in
    let print = print_lessens (some 262144) (some 0) piece [] [] [] [] refl (record { out = moved 262144 262144 (pos 1); err = moved 0 0 (pos 2); other = refl }) in
    let all = print_lessens (prompt 1) (prompt 0) piece [] [] [] [] refl (record { out = moved 1 1 (pos 1); err = moved 0 0 (pos 2); other = refl }) in
    let read = read_brings part (read_of part longer) piece piece (omega arith) refl brought refl in
    let last = last_finishes part (read_of part failing) piece piece refl failed refl in
    tt
