use mathlib.Core.Path.{◌≡◌, ap, sym, ◌∙◌}
use mathlib.Core.List.{List}
use native.Mathlib.Omega.{arith}
use Prim.Native.Nat.{ℕ, ◌+◌, ◌-◌, ◌*◌, ◌≤◌}
use lib.ListN.{length, take, drop, get_or}
use Rattle.answers.proofs.Stores.{wrote_refused, wrote_same}
use Rattle.table.specs.Lines as lines
use Rattle.table.proofs.Faults.{fault_none}
use Rattle.mixed.specs.Lines.{totals_in}
use Rattle.mixed.specs.Rows.{label_of, row_of}
use Rattle.mixed.proofs.Taking.{taken_sound}
use Rattle.mixed.proofs.Calls.{is_sound_lem}
use Rattle.mixed.proofs.Told.{is_own, row_wide, row_no_line, row_goes, row_is}
use Rattle.mixed.proofs.rows.write.Goals.{After-load, Start}
use Rattle.mixed.proofs.rows.write.Goals as goal

-- the line lies in the words
inside : (c : Start) → 13 * c.args.i + 13 ≤ length c.args.lines.now
inside c = let s = is_sound_lem c.requires.0 in omega (arith, s.room, s.few, c.requires.2)

small : (c : Start) → 13 * c.args.i ≤ 208
small c = let s = is_sound_lem c.requires.0 in omega (arith, s.few, c.requires.2)

-- what was loaded was line i
told : (c : After-load) → totals_in (take 13 (drop (13 * c.args.i) c.args.lines.now)) ≡ c.load.result
told c =
    let a = c.args in
    let size : 13 ≡ 13 * a.i + 13 - 13 * a.i = omega arith in
    ap (λ (k : ℕ). totals_in (take k (drop (13 * a.i) a.lines.now))) size ∙ sym c.load.ensures

pub overflow_mul-from : goal.overflow_mul-from
overflow_mul-from c = omega (arith, small (goal.at.overflow_mul-from c).Start)

pub overflow_add-end : goal.overflow_add-end
overflow_add-end c = omega (arith, small (goal.at.overflow_add-end c).Start)

pub offset_bounds-lines-from : goal.offset_bounds-lines-from
offset_bounds-lines-from c = omega (arith, small (goal.at.offset_bounds-lines-from c).Start)

pub bounds-lines-from : goal.bounds-lines-from
bounds-lines-from c = omega (arith, inside (goal.at.bounds-lines-from c).Start)

pub returns-then-ssrc-gt-MOST_SSRC : goal.returns-then-ssrc-gt-MOST_SSRC
returns-then-ssrc-gt-MOST_SSRC c =
    let a = c.args in
    wrote_refused (row_of a.run a.i a.lines.now a.zeroth.now) a.out.now
    (row_wide a.run a.i a.lines.now a.zeroth.now c.requires.0 c.requires.1 c.requires.2 c.if-ssrc-gt-MOST_SSRC.true)

pub offset_bounds-lines-from-2 : goal.offset_bounds-lines-from-2
offset_bounds-lines-from-2 c = omega (arith, small (goal.at.offset_bounds-lines-from-2 c).Start)

pub slice_bounds-load-end : goal.slice_bounds-load-end
slice_bounds-load-end c = omega (arith, inside (goal.at.slice_bounds-load-end c).Start)

pub returns-in_default : goal.returns-in_default
returns-in_default c =
    let a = c.args in
    let none = told (goal.at.returns-in_default c).After-load ∙ c.in_default.is in
    wrote_refused (row_of a.run a.i a.lines.now a.zeroth.now) a.out.now
    (row_no_line a.run a.i a.lines.now a.zeroth.now c.requires.0 c.requires.1 c.requires.2 c.if-ssrc-gt-MOST_SSRC.false none)

pub overflow_add-stop : goal.overflow_add-stop
overflow_add-stop c =
    omega (arith, (is_own c.args.run c.args.zeroth.now c.requires.1).short)

pub slice_bounds-write_row-end : goal.slice_bounds-write_row-end
slice_bounds-write_row-end c =
    let own = is_own c.args.run c.args.zeroth.now c.requires.1 in
    omega (arith, own.short, own.whole)

pub returns : goal.returns
returns c =
    let a = c.args in
    let ws = a.lines.now in
    let zeroth = a.zeroth.now in
    let t = c.in-Some.totals in
    let found = told (goal.at.returns c).After-load ∙ c.in-Some.is in
    let sound = taken_sound (take 13 (drop (13 * a.i) ws)) t found in
    let own = is_own a.run zeroth c.requires.1 in
    let few = c.if-ssrc-gt-MOST_SSRC.false in
    let same : 8 + a.run.length - 8 ≡ a.run.length = omega arith in
    let label = ap (λ (k : ℕ). take k (drop 8 zeroth)) same in
    wrote_same
    (ap (λ (l : List ℕ). lines.row_fault l t) label
    ∙ fault_none (label_of a.run zeroth) t sound.good own.label sound.jumped sound.restarts
    ∙ sym (row_goes a.run a.i ws zeroth c.requires.0 c.requires.1 c.requires.2 few t found))
    (ap (λ (l : List ℕ). lines.row_bytes l (get_or ws (13 * a.i) 0) t) label
    ∙ sym (row_is a.run a.i ws zeroth c.requires.0 c.requires.1 c.requires.2 few t found))
    c.write_row.ensures
