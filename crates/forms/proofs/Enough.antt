-- The room that a caller lends is enough. Assumes nothing.
use Rattle.std.specs.Prelude.{Option, Some, None}
use mathlib.Core.Path.{◌≡◌, refl, ap, ◌∙◌}
use mathlib.Core.Bool.{Bool, true, false, cond}
use mathlib.Core.List.{List, [], ◌∷◌, ◌++◌}
use Prim.Native.Nat.{ℕ, suc, ◌+◌, ◌-◌, ◌*◌, ◌^◌, ◌≤◌, ◌<◌}
use native.Mathlib.Omega.{arith}
use borrow.Author.Tests.{ltb-true}
use lib.Dec.{ltb}
use lib.ListN.{length, length-append}
use Rattle.answers.specs.Refusals.{number_of}
use Rattle.answers.specs.declared.Refusal.{Refusal}
use Rattle.answers.specs.declared.Refusal.TheVariants.{Incomplete, Version, FirstPacket, PacketSize, Padding, BlockSize, Jump, Full, Malformed, Limits, Time, Checksum, Contents, Places, Rules, FormTwo, Attribute, Retired}
use Rattle.format.specs.Blocks.{block_bytes}
use Rattle.format.specs.Forms.{shape_of, other_form}
use Rattle.format.specs.declared.Form.{Form}
use Rattle.format.specs.declared.Form.TheVariants.{One, Two}
use Rattle.format.proofs.Fits.{fits}
use Rattle.trace.specs.declared.Record.{Record}
use Rattle.trace.proofs.Records.{length-records_in}
use Rattle.table.specs.Lines.{refused_line}
use Rattle.table.proofs.Digits.{length-u64}
use Rattle.table.proofs.RefusedLines.{length-refused}
use Rattle.walk.specs.Programs.{Turn, Program}
use Rattle.walk.specs.Pieces.{whole_in}
use Rattle.walk.specs.Fitting.{Took, none_taken, one_more, fitting}
use Rattle.walk.specs.Machines.{ending_by}
use Rattle.walk.specs.Steps.{Next, goes, refuses}
use Rattle.walk.proofs.Pieces.{whole_many}
use Rattle.forms.specs.Packing.{full, left}
use Rattle.forms.specs.Conversions.{to_shape, sound, held_in, next_of, call_next, bytes_in}
use Rattle.forms.specs.Converted.{Kept, kept_of, taken, told, ecnforms}
use Rattle.forms.specs.Pieces.{end_of, BlocksHaveRoom, EndHasRoom}
use Rattle.forms.specs.Theorems.{BlocksAreFew}
use Rattle.forms.proofs.Held.{is_sound_lem}
use Rattle.forms.proofs.Packed.{full_fits, length-left, length-full}
use Rattle.forms.proofs.Whole.{to, brings, few_brought}
use Rattle.forms.proofs.Calls.{last_long}
use Rattle.forms.proofs.PieceCalls.{took_by_lem}

-- ---- all blocks are taken, where there is enough room for so many at each turn

module _ {S : Type 0} (p : Program S) (Enough : ℕ → ℕ → S → Type 0)
    (turns : (i many room : ℕ) (s : S) (b : List ℕ) → Enough (suc many) room s
    → let t = p.step i s b in (length t.printed.out ≤ room) × (t.refusal ≡ None → Enough many (room - length t.printed.out) t.state)) where
  all_by : (s : S) (t : Turn S) (w : Took S) (room many : ℕ) (small : Bool) (o : Option Refusal) → ltb room (length t.printed.out) ≡ small → t.refusal ≡ o
      → length t.printed.out ≤ room → (t.refusal ≡ None → w.refusal ≡ None → w.taken ≡ many)
      → let u = cond small (none_taken s) (one_more t o w) in u.refusal ≡ None → u.taken ≡ suc many
  all_by s t w room many true o e f h k r = absurd (omega (arith, ltb-true room (length t.printed.out) e, h))
  all_by s t w room many false None e f h k r = ap suc (k f r)
  all_by s t w room many false (Some refusal) e f h k r = let z : ◌≡◌ {A = ℕ} 0 1 = cc in absurd (omega arith)

  all_taken : (i : ℕ) (bs : List (List ℕ)) (s : S) (room : ℕ) → Enough (length bs) room s → (fitting p i bs s room).refusal ≡ None → (fitting p i bs s room).taken ≡ length bs
  unfolding fitting
  all_taken i [] s room g = λ r. refl
  all_taken i (b ∷ bs) s room g =
      let t = p.step i s b in
      let n = length t.printed.out in
      let k = turns i (length bs) room s b g in
      all_by s t (fitting p (suc i) bs t.state (room - n)) room (length bs) (ltb room n) t.refusal refl refl k.0
      (λ f. all_taken (suc i) bs t.state (room - n) (k.1 f))

-- ---- the blocks that are full with the records of so many blocks and those that are held

-- the most records of all these blocks, at so many bytes a record, are within the room; each side has the other form's most records as a factor
abbrev EnoughBy : Form → ℕ → ℕ → ℕ → Type 0
EnoughBy One many room held = block_bytes * (held + 62 * many) ≤ 50 * room
EnoughBy Two many room held = block_bytes * (held + 50 * many) ≤ 62 * room

-- at the start
enough_first : (form : Form) (many room held : ℕ) → held < (shape_of (other_form form)).most → many ≤ 256 → 320 * block_bytes ≤ room → EnoughBy form many room held
enough_first One many room held h m r = omega arith
enough_first Two many room held h m r = omega arith

-- a block of n records that fills k others
enough_next : (form : Form) (many room held n k : ℕ) → EnoughBy form (suc many) room held → n ≤ (shape_of form).most → k * (shape_of (other_form form)).most ≤ held + n
    → (k * block_bytes ≤ room) × EnoughBy form many (room - k * block_bytes) (held + n - k * (shape_of (other_form form)).most)
enough_next One many room held n k e f g = (omega arith, omega arith)
enough_next Two many room held n k e f g = (omega arith, omega arith)

abbrev EnoughFor : ℕ → ℕ → Kept → Type 0
EnoughFor many room k = EnoughBy k.form many room (length k.held)

enough_turn : (i many room : ℕ) (k : Kept) (b : List ℕ) → EnoughFor (suc many) room k
    → let t = ecnforms.step i k b in (length t.printed.out ≤ room) × (t.refusal ≡ None → EnoughFor many (room - length t.printed.out) t.state)
enough_turn i many room k b e = go (next_of k.form k.ssrc b) refl
  where
    go : (n : Next (List Record)) → next_of k.form k.ssrc b ≡ n
        → let t = taken k n in (length t.printed.out ≤ room) × (t.refusal ≡ None → EnoughFor many (room - length t.printed.out) t.state)
    go (refuses refusal) q = (omega arith, λ r. let z : ◌≡◌ {A = ℕ} 0 1 = cc in absurd (omega arith))
    go (goes records) q =
        let rs = k.held ++ records in
        let fit = full_fits (to k) rs in
        let size = length-full (to k) k.ssrc (fits (other_form k.form)).room (full (to k) rs) rs fit in
        let many_records = length-append k.held records in
        let next = enough_next k.form many room (length k.held) (length records) (full (to k) rs) e (few_brought (brings k.form k.ssrc b q)) (omega (arith, fit, many_records)) in
        let held : length (left (to k) rs) ≡ length k.held + length records - full (to k) rs * (to k).most = length-left (to k) rs ∙ ap (λ (n : ℕ). n - full (to k) rs * (to k).most) many_records in
        (omega (arith, size, next.0), λ r. rw (size, held) next.1)

pub blocks_have_room : BlocksHaveRoom
blocks_have_room p part piece room e g few h =
    let s = is_sound_lem g in
    let k = kept_of p.conversion part in
    let many = whole_many piece in
    let held = length-records_in (to_shape p.conversion) p.conversion.held part in
    let start : EnoughFor (length (whole_in piece)) room k =
    enough_first p.conversion.form (length (whole_in piece)) room (length k.held) (omega (arith, held, s.few)) (omega (arith, many, few)) h in
    let all = all_taken ecnforms EnoughFor enough_turn p.block (whole_in piece) k room start in
    rw (took_by_lem p part piece room e) (λ r. all r ∙ many)

-- ---- one block

-- a block of n records, and those that are held, fill at most two others
few_full : (form : Form) (held n k : ℕ) → held < (shape_of (other_form form)).most → n ≤ (shape_of form).most → k * (shape_of (other_form form)).most ≤ held + n → k ≤ 2
few_full One held n k h f g = omega arith
few_full Two held n k h f g = omega arith

pub blocks_are_few : BlocksAreFew
unfolding call_next
blocks_are_few c part b = go (sound c part) refl
  where
    Few : Next (List Record) → Type 0
    Few next = (k : ℕ) × (k ≤ 2) × (length (bytes_in c part next) ≡ k * block_bytes)

    by_next : sound c part ≡ true → (next : Next (List Record)) → next_of c.form c.ssrc b ≡ next → Few next
    by_next s (refuses refusal) e = (0, omega arith, refl)
    by_next s (goes records) e =
        let rs = held_in c part ++ records in
        let fit = full_fits (to_shape c) rs in
        let held = length-records_in (to_shape c) c.held part in
        let few = few_full c.form (length (held_in c part)) (length records) (full (to_shape c) rs) (omega (arith, held, (is_sound_lem s).few)) (few_brought (brings c.form c.ssrc b e)) (omega (arith, fit, length-append (held_in c part) records)) in
        (full (to_shape c) rs, few, length-full (to_shape c) c.ssrc (fits (other_form c.form)).room (full (to_shape c) rs) rs fit)

    go : (t : Bool) → sound c part ≡ t → Few (cond t (next_of c.form c.ssrc b) (refuses Malformed))
    go true s = by_next s (next_of c.form c.ssrc b) refl
    go false s = (0, omega arith, refl)

-- ---- the end

number_small : (r : Refusal) → number_of r < 2 ^ 64
number_small Incomplete = omega arith
number_small Version = omega arith
number_small FirstPacket = omega arith
number_small PacketSize = omega arith
number_small Padding = omega arith
number_small BlockSize = omega arith
number_small Jump = omega arith
number_small Full = omega arith
number_small Malformed = omega arith
number_small Limits = omega arith
number_small Time = omega arith
number_small Checksum = omega arith
number_small Contents = omega arith
number_small Places = omega arith
number_small Rules = omega arith
number_small FormTwo = omega arith
number_small Attribute = omega arith
number_small Retired = omega arith

line_small : (refusal : Refusal) (block : ℕ) → block < 2 ^ 64 → length (refused_line (number_of refusal) block) ≤ 64
line_small refusal block h =
    omega (arith, length-refused (number_of refusal) block, length-u64 (number_of refusal) (number_small refusal), length-u64 block h)

told_small : (block : ℕ) (o : Option Refusal) (rest : List ℕ) → block < 2 ^ 64 → length (told (ending_by block o rest)) ≤ 64
told_small block (Some refusal) rest h = line_small refusal block h
told_small block None [] h = omega arith
told_small block None (c ∷ rest) h = line_small Incomplete block h

pub end_has_room : EndHasRoom
unfolding end_of
end_has_room p part rest g small =
    let c = p.conversion in
    let few : length (held_in c part) ≤ (to_shape c).most = omega (arith, length-records_in (to_shape c) c.held part, (is_sound_lem g).few) in
    (last_long (other_form c.form) c.ssrc (held_in c part) few, told_small p.block p.ended rest small)
