-- Lists of calls in two parts, and the records of a trace's blocks as calls. Assumes nothing.
use Rattle.std.specs.Prelude.{Ok}
use mathlib.Core.Path.{◌≡◌, refl, sym, ap, ap₂, ◌∙◌, subst}
use mathlib.Core.Bool.{Bool, true, cond, ◌&&◌}
use mathlib.Core.List.{List, [], ◌∷◌, ◌++◌, map}
use Prim.Native.Nat.{ℕ, zero, suc, ◌+◌, ◌-◌, ◌*◌, ◌≤◌}
use native.Mathlib.Nat.{zero-add, add-zero}
use native.Mathlib.Omega.{arith}
use borrow.Author.Tests.{leb-true, le-leb}
use lib.Dec.{leb}
use lib.IntN.{ℤ}
use lib.ListN.{length, take, drop, get_or, length-map}
use Rattle.answers.proofs.Conditions.{and_left, and_right}
use Rattle.format.specs.Blocks.{body_at}
use Rattle.format.specs.Forms.{Shape, shape_of, width}
use Rattle.format.specs.declared.Form.{Form}
use Rattle.format.specs.declared.Form.TheVariants.{One, Two}
use Rattle.source.specs.declared.Source.{Source}
use Rattle.answers.specs.declared.Refusal.TheVariants.{Limits}
use Rattle.source.specs.declared.Arrival.TheVariants.{Accepted, Refused}
use Rattle.source.specs.declared.BlockCount.TheVariants.{Counted}
use Rattle.source.specs.Record.{sound}
use Rattle.source.specs.Arrivals.{after}
use Rattle.source.specs.Blocks.{Packet, packets, marks_fit, jump, restart, count_all, block_count}
use Rattle.source.proofs.Packets.{packets_take}
use Rattle.source.proofs.Totalled.{length-packets, block_counts}
use Rattle.trace.specs.Layout.{record_at, body_of}
use Rattle.trace.specs.Contents.{is_zero, is_mark, good_records}
use Rattle.trace.specs.Reading.{block_of}
use Rattle.trace.specs.Theorems.{records_in}
use Rattle.trace.specs.declared.Block.TheVariants.{Arrivals}
use Rattle.trace.proofs.Accepted.{accepted}
use Rattle.demands.specs.Calls.{TruePacket, call, run_from, AnsweredFrom, arrivals, SteadyAfter, Steady, max_z}
use Rattle.demands.specs.PrintedTable.{in_record, of_arrival}
use Rattle.demands.proofs.Members.{Marks}

-- ---- two parts

pub run_parts : (s : Source) (us vs : List TruePacket) → run_from s (us ++ vs) ≡ run_from (run_from s us) vs
run_parts s [] vs = refl
run_parts s (u ∷ us) vs = run_parts (after (call s u)) us vs

pub answers_behind : (s : Source) (us vs : List TruePacket) → AnsweredFrom s (us ++ vs) → AnsweredFrom (run_from s us) vs
answers_behind s [] vs a = a
answers_behind s (u ∷ us) vs a = answers_behind (after (call s u)) us vs a.1

pub answers_front : (s : Source) (us vs : List TruePacket) → AnsweredFrom s (us ++ vs) → AnsweredFrom s us
answers_front s [] vs a = tt
answers_front s (u ∷ us) vs a = (a.0, answers_front (after (call s u)) us vs a.1)

steady_later : (h : ℤ) (us vs : List TruePacket) → SteadyAfter h (us ++ vs) → SteadyAfter h us
steady_later h [] vs st = tt
steady_later h (u ∷ us) vs st = (st.0, st.1, steady_later (max_z h u.number) us vs st.2)

pub steady_front : (us vs : List TruePacket) → Steady (us ++ vs) → Steady us
steady_front [] vs st = tt
steady_front (u ∷ us) vs st = (st.0, st.1, steady_later u.number us vs st.2)

pub marks_parts : (us vs : List TruePacket) → Marks us → Marks vs → Marks (us ++ vs)
marks_parts [] vs m n = n
marks_parts (u ∷ us) vs m n = (m.0, marks_parts us vs m.1 n)

-- packets in two parts that are what the program sees of some arrivals
pub record Split (xs ys : List Packet) (vs : List TruePacket) : Type 0 where
  pub front : List TruePacket
  pub back : List TruePacket
  pub is : vs ≡ front ++ back
  pub first : xs ≡ map of_arrival front
  pub more : ys ≡ map of_arrival back

pub split : (xs ys : List Packet) (vs : List TruePacket) → xs ++ ys ≡ map of_arrival vs → Split xs ys vs
split [] ys vs e = record { front = []; back = vs; is = refl; first = refl; more = e }
split (x ∷ xs) ys [] e = let z : ◌≡◌ {A = ℕ} 0 1 = cc in absurd (omega arith)
split (x ∷ xs) ys (v ∷ vs) e =
    let same : x ≡ of_arrival v = cc in
    let rest = split xs ys vs cc in
    record {
      front = v ∷ rest.front;
      back = rest.back;
      is = ap (λ (l : List TruePacket). v ∷ l) rest.is;
      first = λ i. same i ∷ rest.first i;
      more = rest.more;
    }

-- where no mark is above 3 every call brings an arrival
pub all_arrivals : (ps : List TruePacket) → Marks ps → arrivals ps ≡ ps
all_arrivals [] m = refl
all_arrivals (p ∷ ps) m = rw (le-leb p.mark 3 m.0) (ap (λ (l : List TruePacket). p ∷ l) (all_arrivals ps m.1))

-- ---- a block's records as calls

packets_are : (shape : Shape) (n : ℕ) (s : List ℕ) → packets (width shape) n s ≡ map in_record (records_in shape n s)
unfolding packets records_in record_at
packets_are shape zero s = refl
packets_are shape (suc n) s =
    let wire : width shape - 4 ≡ 0 + shape.time = omega arith in
    let mark : width shape - 2 ≡ 0 + (shape.time + 2) = omega arith in
    rw (wire, mark, packets_are shape n (drop (width shape) s))

good_marks : (shape : Shape) (n : ℕ) (s : List ℕ) (vs : List TruePacket) → good_records shape n s ≡ true → map in_record (records_in shape n s) ≡ map of_arrival vs → Marks vs
unfolding good_records records_in record_at
good_marks shape zero s [] g e = tt
good_marks shape zero s (v ∷ vs) g e = let z : ◌≡◌ {A = ℕ} 0 1 = cc in absurd (omega arith)
good_marks shape (suc n) s [] g e = let z : ◌≡◌ {A = ℕ} 0 1 = cc in absurd (omega arith)
good_marks shape (suc n) s (v ∷ vs) g e =
    let m : Bool = is_mark (get_or s (shape.time + 2) 0) in
    let z : Bool = is_zero (get_or s (shape.time + 3) 0) in
    let rest : Bool = good_records shape n (drop (width shape) s) in
    let same : in_record (record_at shape s 0) ≡ of_arrival v = cc in
    let more : map in_record (records_in shape n (drop (width shape) s)) ≡ map of_arrival vs = cc in (
      subst (λ (k : ℕ). k ≤ 3) (ap (λ (k : ℕ). get_or s k 0) (sym (zero-add (shape.time + 2))) ∙ ap (λ (p : Packet). p.mark) same) (leb-true (get_or s (shape.time + 2) 0) 3 (and_left m (z && rest) g)),
      good_marks shape n (drop (width shape) s) vs (and_right z rest (and_right m (z && rest) g)) more,
    )

good_fit : (shape : Shape) (n : ℕ) (s : List ℕ) → good_records shape n s ≡ true → marks_fit (map in_record (records_in shape n s)) ≡ true
unfolding good_records records_in record_at
good_fit shape zero s g = refl
good_fit shape (suc n) s g =
    let m : Bool = is_mark (get_or s (shape.time + 2) 0) in
    let z : Bool = is_zero (get_or s (shape.time + 3) 0) in
    let rest : Bool = good_records shape n (drop (width shape) s) in
    let fits : leb (get_or s (0 + (shape.time + 2)) 0) 3 ≡ true = ap (λ (k : ℕ). leb (get_or s k 0) 3) (zero-add (shape.time + 2)) ∙ and_left m (z && rest) g in
    rw (fits, good_fit shape n (drop (width shape) s) (and_right z rest (and_right m (z && rest) g)))

-- calls that are all accepted, counted as a block
pub count_accepted : (vs : List TruePacket) (s : Source) (jumps restarts : ℕ) → Marks vs → AnsweredFrom s vs → count_all (map of_arrival vs) s jumps restarts ≡ Counted (run_from s vs) jumps restarts
unfolding count_all
count_accepted [] s jumps restarts m a = refl
count_accepted (v ∷ vs) s jumps restarts m a =
    let is : call s v ≡ Accepted (after (call s v)) = subst (λ (t : Bool). call s v ≡ cond t (Accepted (after (call s v))) (Refused Limits s)) (le-leb v.mark 3 m.0) a.0 in
    ap₂ (λ (i j : ℕ). count_all (map of_arrival vs) (after (call s v)) i j) (ap (λ (n : ℕ). jumps + n) (ap jump is) ∙ add-zero jumps) (ap (λ (n : ℕ). restarts + n) (ap restart is) ∙ add-zero restarts)
    ∙ count_accepted vs (after (call s v)) jumps restarts m.1 a.1

-- a block counts its records one by one
module _ (b : List ℕ) (form : Form) (n ssrc : ℕ) (e : block_of b ≡ Ok (Arrivals form n ssrc)) where
  in_block : List ℕ
  in_block = take (n * width (shape_of form)) (drop body_at b)

  block_packets : packets (width (shape_of form)) n in_block ≡ map in_record (records_in (shape_of form) n (body_of b))
  unfolding in_block
  block_packets =
      ap (packets (width (shape_of form)) n) (sym (accepted b e).block.place)
      ∙ packets_take (width (shape_of form)) n (n * width (shape_of form)) (body_of b) (omega arith) (omega arith)
      ∙ packets_are (shape_of form) n (body_of b)

  pub records_counted : (s : Source) → sound s ≡ true
      → block_count s (width (shape_of form)) (take (n * width (shape_of form)) (drop body_at b)) ≡ count_all (map in_record (records_in (shape_of form) n (body_of b))) s 0 0
  unfolding in_block
  records_counted s g =
      let h = accepted b e in
      let long : length in_block ≡ n * width (shape_of form) = ap length (sym h.block.place) ∙ h.block.long in
      block_counts (width (shape_of form)) n in_block (omega arith) long h.least (most form n h.most) (ap marks_fit block_packets ∙ good_fit (shape_of form) n (body_of b) h.records) s g
      ∙ ap (λ (l : List Packet). count_all l s 0 0) block_packets
    where
      most : (form : Form) (n : ℕ) → n ≤ (shape_of form).most → n ≤ 62
      most One n h = h
      most Two n h = omega arith

  -- a block of `vs`: their marks, their number, and what it counts
  module _ (vs : List TruePacket) (same : map in_record (records_in (shape_of form) n (body_of b)) ≡ map of_arrival vs) where
    pub block_marks : Marks vs
    block_marks = good_marks (shape_of form) n (body_of b) vs (accepted b e).records same

    pub block_length : length vs ≡ n
    block_length =
        sym (length-map vs of_arrival) ∙ ap length (sym same ∙ sym (packets_are (shape_of form) n (body_of b))) ∙ length-packets (width (shape_of form)) n (body_of b)

    pub block_counted : (s : Source) → sound s ≡ true → AnsweredFrom s vs
        → block_count s (width (shape_of form)) (take (n * width (shape_of form)) (drop body_at b)) ≡ Counted (run_from s vs) 0 0
    block_counted s g a = records_counted s g ∙ ap (λ (l : List Packet). count_all l s 0 0) same ∙ count_accepted vs s 0 0 block_marks a
