-- The turns of a main make a session. Assumes nothing.
use Rattle.std.specs.Prelude.{Option}
use Rattle.answers.specs.declared.Refusal.{Refusal}
use mathlib.Core.Path.{◌≡◌, refl, sym, ap, subst, ◌∙◌}
use mathlib.Core.Logic.{◌⊎◌, inl, inr, ⊎_elim}
use mathlib.Core.Bool.{Bool, true, false, ◌&&◌}
use mathlib.Core.List.{List, [], ◌++◌, append-nil}
use Prim.Native.Nat.{ℕ, ◌+◌, ◌-◌, ◌%◌, ◌≤◌, ◌<◌}
use native.Mathlib.Omega.{arith}
use borrow.Author.Tests.{leb-false, lt-ltb}
use lib.Dec.{leb, ltb}
use lib.ListN.{length, take, drop, length-take, length-drop, drop_of_length-le}
use lib.Seq.{take_all, take_at, drop_at}
use Rattle.walk.specs.Endings.{is_going}
use Rattle.walk.specs.Machines.{Machine, Rest, more, done, over, Session, began}
use Rattle.walk.specs.Programs.{Printed, both}
use Rattle.walk.proofs.Sessions.{session_prints}
use Rattle.shell.specs.Fills.{Filled, is_more, is_failure, end_of}
use Rattle.shell.specs.Transfers.{left_of, rest_of, begun_of, read_of, taken_of, put_of}
use Rattle.shell.specs.Turns.{is_due, turn_of}
use Rattle.shell.specs.Sessions.{Reads, Turns, take-turn, print_turn, read_turn, finish_turn, begun, Sound, MainIsSession, MainPrints}
use Rattle.shell.specs.declared.printing.Output.{Output}
use Rattle.shell.specs.declared.reading.Ahead.{Ahead}
use Rattle.shell.specs.declared.reading.Ahead.TheVariants.{More, End, Failure}
use Rattle.shell.specs.declared.reading.Input.{Input}
use Rattle.shell.specs.declared.transfers.Transfer.{Transfer}
use Rattle.shell.proofs.Asked.{none_of, take-asks, read_asks, finish_asks}
use Rattle.shell.proofs.Ends.{unread_none, end_short}
use Rattle.shell.proofs.Lefts.{left_long}
use Rattle.shell.proofs.Rests.{rest_splits, rest_after}

-- ---- the turns

-- how a main stands between two turns: whole blocks are taken of what was read
pub record Stands {H : Type 0} (m : Machine H) (h : H) (t : Transfer) (piece unread : List ℕ) : Type 0 where
  pub going : t.going ≡ m.going h
  pub inside : t.from ≤ t.input.bytes
  pub fits : t.input.bytes ≤ length piece
  pub whole : t.from % 512 ≡ 0
  pub last : is_more t.input.ahead ≡ false → unread ≡ []

-- what the end gets is no whole block
last_short : (t : Transfer) (piece : List ℕ) → t.from % 512 ≡ 0 → t.from ≤ t.input.bytes → t.input.bytes ≤ length piece → length (left_of t piece) < 512 → length (rest_of t piece) < 512
last_short t piece w h k e =
    let long = left_long t piece in
    let most : length (rest_of t piece) ≤ end_of t.input - t.from = simp (length-drop, length-take) (omega arith) in
    end_short t.input t.from (length (rest_of t piece)) w h (omega arith) most

-- before a read all is left that was read
all_read : (t : Transfer) (piece unread : List ℕ) → t.input.ahead ≡ More → left_of t piece ++ unread ≡ rest_of t piece ++ unread
all_read t piece unread a =
    let byte = unread_none t.input (rw a) in
    let same : t.input.bytes ≡ end_of t.input = omega arith in
    ap (λ (k : ℕ). drop t.from (take k piece) ++ unread) same

module _ {H : Type 0} (m : Machine H) (ended : H → Option Refusal) (s : Sound m ended) where
  -- after a refusal nothing is taken or read any more
  turns_over : {h : H} {t : Transfer} {piece unread : List ℕ} {q : Printed} → t.going ≡ false → m.going h ≡ false → (left : List ℕ) → Turns m ended h t piece unread q → Rest m h left q
  unfolding turn_of
  turns_over g k left (take-turn h t piece unread room out err q e r rest) =
      let asked = take-asks t.out.failed (is_due t) t.going (leb 512 (length (left_of t piece))) t.input.ahead e in none_of (cc)
  turns_over g k left (print_turn h t piece unread out err q e rest) = turns_over g k left rest
  turns_over g k left (read_turn h t piece next unread after input q e r rest) =
      let asked = read_asks t.out.failed (is_due t) t.going (leb 512 (length (left_of t piece))) t.input.ahead e in none_of (cc)
  turns_over g k left (finish_turn h t piece unread e) = over h left (rest_of t piece) k

  -- after a call
  taken_stands : (h : H) (t : Transfer) (piece unread : List ℕ) (room : ℕ) (out err : Output) → let g = m.blocks h (left_of t piece) room in
      (is_going (ended g.state) ≡ true → 1 ≤ g.taken) → Stands m h t piece unread
      → Stands m g.state (put_of (taken_of t (ended g.state) g.taken piece) out err) piece unread
  taken_stands h t piece unread room out err some st =
      let g = m.blocks h (left_of t piece) room in
      let r = taken_of t (ended g.state) g.taken piece in
      let long = left_long t piece in
      let within = s.inside h (left_of t piece) room in
      let whole = s.whole h (left_of t piece) room in
      record {
        going = goes (is_going (ended g.state)) refl;
        inside = omega (arith, st.inside, st.fits);
        fits = st.fits;
        whole = omega (arith, st.whole);
        last = st.last;
      }
    where
      goes : (b : Bool) → is_going (ended (m.blocks h (left_of t piece) room).state) ≡ b
          → (is_going (ended (m.blocks h (left_of t piece) room).state) && ltb 0 (m.blocks h (left_of t piece) room).taken) ≡ m.going (m.blocks h (left_of t piece) room).state
      goes true e = rw (e, lt-ltb 0 (m.blocks h (left_of t piece) room).taken (omega (arith, some e))) (sym (s.going (m.blocks h (left_of t piece) room).state ∙ e))
      goes false e = rw e (sym (s.going (m.blocks h (left_of t piece) room).state ∙ e))

  -- after a read
  read_stands : (h : H) (t : Transfer) (piece next unread after : List ℕ) (enough : ℕ) (input : Input) → Reads enough (left_of t piece) input next unread after
      → Stands m h t piece unread → Stands m h (read_of t input) next after
  read_stands h t piece next unread after enough input r st =
      record { going = st.going; inside = omega arith; fits = r.filled.inside; whole = refl; last = r.last }

  turns_rest : {h : H} {t : Transfer} {piece unread : List ℕ} {q : Printed} → Stands m h t piece unread → Turns m ended h t piece unread q → Rest m h (rest_of t piece ++ unread) q
  unfolding turn_of
  turns_rest st (take-turn h t piece unread room out err q e r rest) =
      let k = (m.blocks h (left_of t piece) room).taken in
      let behind = drop (length (left_of t piece)) (rest_of t piece) ++ unread in
      let ih = turns_rest (taken_stands h t piece unread room out err r st) rest in
      subst (λ (l : List ℕ). Rest m h l (both (m.blocks h (left_of t piece) room).printed q)) (rest_splits t piece (omega (arith, st.inside, st.fits)) unread)
      (more h (left_of t piece) behind room q
      (subst (λ (l : List ℕ). Rest m (m.blocks h (left_of t piece) room).state l q) (sym (rest_after t piece (omega (arith, st.inside, st.fits)) k unread (s.inside h (left_of t piece) room))) ih))
  turns_rest st (print_turn h t piece unread out err q e rest) =
      turns_rest (record { going = st.going; inside = st.inside; fits = st.fits; whole = st.whole; last = st.last }) rest
  turns_rest st (read_turn h t piece next unread after input q e r rest) =
      let asked = read_asks t.out.failed (is_due t) t.going (leb 512 (length (left_of t piece))) t.input.ahead e in
      subst (λ (l : List ℕ). Rest m h l q) (sym r.bytes ∙ all_read t piece unread asked.2) (turns_rest (read_stands h t piece next unread after _ input r st) rest)
  turns_rest st (finish_turn h t piece unread e) =
      ⊎_elim
      (λ (g : t.going ≡ false). over h (rest_of t piece ++ unread) (rest_of t piece) (sym st.going ∙ g))
      (λ (k : (leb 512 (length (left_of t piece)) ≡ false) × (is_more t.input.ahead ≡ false)).
      subst (λ (l : List ℕ). Rest m h l (m.end h (rest_of t piece))) (sym (append-nil (rest_of t piece)) ∙ ap (λ (u : List ℕ). rest_of t piece ++ u) (sym (st.last k.1)))
      (done h (rest_of t piece)
      (last_short t piece st.whole st.inside st.fits (leb-false 512 (length (left_of t piece)) k.0))))
      (finish_asks t.out.failed (is_due t) t.going (leb 512 (length (left_of t piece))) t.input.ahead e)

-- ---- block 0

-- the first block is what was read, and the unread bytes are those after it
module _ (front unread trace : List ℕ) (e : trace ≡ front ++ unread) (h : (length front ≡ 512) ⊎ ((length front ≤ 512) × (unread ≡ []))) where
  zeroth_is : take 512 trace ≡ front
  zeroth_is =
      ap (take 512) e
      ∙ ⊎_elim
      (λ (n : length front ≡ 512). take_at front unread 512 n)
      (λ (n : (length front ≤ 512) × (unread ≡ [])). ap (λ (u : List ℕ). take 512 (front ++ u)) n.1 ∙ ap (take 512) (append-nil front) ∙ take_all 512 front n.0)
      h

  others_are : drop 512 trace ≡ unread
  others_are =
      ap (drop 512) e
      ∙ ⊎_elim
      (λ (n : length front ≡ 512). drop_at front unread 512 n)
      (λ (n : (length front ≤ 512) × (unread ≡ [])).
      ap (λ (u : List ℕ). drop 512 (front ++ u)) n.1 ∙ ap (drop 512) (append-nil front) ∙ drop_of_length-le front {i = 512} n.0 ∙ sym n.1)
      h

-- a whole block was read, or nothing comes after what was read
zeroth_read : (a : Ahead) (input : Input) (kept unread : List ℕ) → input.ahead ≡ a → length kept ≡ 512 → Filled 0 512 (length kept) input → (is_more input.ahead ≡ false → unread ≡ [])
    → (length (take (end_of input) kept) ≡ 512) ⊎ ((length (take (end_of input) kept) ≤ 512) × (unread ≡ []))
zeroth_read More input kept unread e n f last =
    let full = f.full (rw e) in
    let byte = unread_none input (rw e) in
    inl (rw length-take (omega (arith, f.inside)))
zeroth_read End input kept unread e n f last = inr (rw length-take (omega arith), last (rw e))
zeroth_read Failure input kept unread e n f last = inr (rw length-take (omega arith), last (rw e))

-- the calls after block 0: where its read has failed, it is not whole, and so refused
module _ {H : Type 0} (m : Machine H) (ended : H → Option Refusal) (s : Sound m ended) (zeroth : Input) (prompt : Bool) (kept piece unread : List ℕ) (out err : Output)
    (n : length kept ≡ 512) {trace : List ℕ} (r : Reads 512 [] zeroth kept trace unread) where
  abbrev first : H
  first = (m.begin (take (end_of zeroth) kept)).state

  abbrev start : Transfer
  start = put_of (begun_of zeroth (ended first) prompt) out err

  begun_rest : (a : Ahead) → zeroth.ahead ≡ a → {q : Printed} → Turns m ended first start piece unread q → Rest m first unread q
  begun_rest a e {q} turns = go a e
    where
      stands : Stands m first start piece unread
      stands = record { going = sym (s.going first); inside = omega arith; fits = omega arith; whole = refl; last = r.last }

      unfailed : is_failure zeroth.ahead ≡ false → Rest m first unread q
      unfailed f =
          let byte = unread_none start.input f in
          subst (λ (k : ℕ). Rest m first (take (0 + k) piece ++ unread) q) byte (turns_rest m ended s stands turns)

      go : (a : Ahead) → zeroth.ahead ≡ a → Rest m first unread q
      go More e = unfailed (rw e)
      go End e = unfailed (rw e)
      go Failure e =
          let few = r.filled.short (rw e) in
          let short : length (take (end_of zeroth) kept) < 512 = end_short zeroth 0 (length (take (end_of zeroth) kept)) refl (omega arith) (omega arith) (rw length-take (omega arith)) in
          let refused = s.short (take (end_of zeroth) kept) short in
          turns_over m ended s (sym (s.going first) ∙ refused) refused unread turns

pub main_is_session : MainIsSession
main_is_session H m ended trace q s (begun zeroth prompt kept piece unread out err q' n r turns) =
    let front = take (end_of zeroth) kept in
    let read = zeroth_read zeroth.ahead zeroth kept unread refl n r.filled r.last in
    let is = zeroth_is front unread trace r.bytes read in
    let rest = begun_rest m ended s zeroth prompt kept piece unread out err n r zeroth.ahead refl turns in
    subst (λ (b : List ℕ). Session m trace (both (m.begin b).printed q')) is
    (began q'
    (subst (λ (b : List ℕ). Rest m (m.begin b).state (drop 512 trace) q') (sym is)
    (subst (λ (l : List ℕ). Rest m (m.begin front).state l q') (sym (others_are front unread trace r.bytes read)) rest)))

pub main_prints : MainPrints
main_prints H S m p ended trace q f s o few w = session_prints H S m p trace q f o few (main_is_session H m ended trace q s w)
