use Rattle.std.specs.Prelude.{Option, None, Result, Err}
use Rattle.std.specs.Option.{ok_or}
use Rattle.std.specs.Result.{result_ok}
use Rattle.answers.specs.declared.Refusal.{Refusal}
use Rattle.answers.specs.declared.Refusal.TheVariants.{Malformed}
use Rattle.source.specs.declared.Totals.{Totals}
use Rattle.std.proofs.lemmas.Result.{err_from_is_err_and}
use mathlib.Core.Path.{◌≡◌, ap, sym, ◌∙◌}
use mathlib.Core.List.{[]}
use native.Mathlib.Omega.{arith}
use Prim.Native.Nat.{ℕ, ◌+◌, ◌-◌, ◌*◌, ◌≤◌}
use lib.ListN.{length, take, drop, get_or, length-set}
use Rattle.mixed.specs.Blocks.{counted, held_line}
use Rattle.mixed.specs.Lines.{lines_in, ssrc_in, totals_in, line_words, in_words}
use Rattle.mixed.specs.Places.{renewed_by}
use Rattle.mixed.proofs.Cuts.{length-lines, line_at_lem}
use Rattle.mixed.proofs.Standing.{renewed_at}
use Rattle.mixed.proofs.Stored.{line_renewed}
use Rattle.mixed.proofs.Calls.{is_sound_lem, takes_refuses, takes_goes}
use Rattle.mixed.proofs.counting.renew.Goals.{After-load, Start}
use Rattle.mixed.proofs.counting.renew.Goals as goal

-- the line lies in the words
inside : (c : Start) → 13 * c.args.at + 13 ≤ length c.args.lines.now
inside c = let s = is_sound_lem c.requires.sound.0 in omega (arith, s.room, s.few, c.requires.placed.0)

-- what was loaded was line `at`
told : (c : After-load) → totals_in (get_or (lines_in c.args.run.held c.args.lines.now) c.args.at []) ≡ c.load.result
told c =
    let ws = c.args.lines.now in
    let size : 13 ≡ 13 * c.args.at + 13 - 13 * c.args.at = omega arith in
    ap totals_in (line_at_lem c.args.at c.args.run.held ws c.requires.placed.0)
    ∙ ap (λ (k : ℕ). totals_in (take k (drop (13 * c.args.at) ws))) size
    ∙ sym c.load.ensures

pub overflow_mul-from : goal.overflow_mul-from
overflow_mul-from c = omega (arith, (is_sound_lem c.requires.sound.0).few)

pub overflow_add-end : goal.overflow_add-end
overflow_add-end c = omega (arith, (is_sound_lem c.requires.sound.0).few)

pub offset_bounds-lines-from : goal.offset_bounds-lines-from
offset_bounds-lines-from c = omega (arith, (is_sound_lem c.requires.sound.0).few)

pub slice_bounds-load-end : goal.slice_bounds-load-end
slice_bounds-load-end c = omega (arith, inside (goal.at.slice_bounds-load-end c).Start)

pub returns-in_err-before : goal.returns-in_err-before
returns-in_err-before c =
    let a = c.args in
    let lines = lines_in a.run.held a.lines.now in
    let count = counted a.run.form a.n a.block.now in
    let p = err_from_is_err_and c.from_residual.result c.from_residual.ensures.1 in
    let none : c.load.result ≡ None = c.ok_or.ensures.ok_part ∙ ap result_ok c.in_err-before.was in
    let same : ◌≡◌ {A = Result Totals Refusal} (Err c.in_err-before.field-0.0) (Err Malformed) =
    sym c.in_err-before.was ∙ c.ok_or.ensures.value ∙ ap (λ (o : Option Totals). ok_or o Malformed) none in
    let malformed : c.in_err-before.field-0.0 ≡ Malformed = cc in
    rw (p.1, p.2, malformed) (takes_refuses a.run a.lines.now (ap (held_line in_words count a.ssrc lines) (told (goal.at.returns-in_err-before c).After-load ∙ none)))

pub offset_bounds-lines-from-2 : goal.offset_bounds-lines-from-2
offset_bounds-lines-from-2 c = omega (arith, (is_sound_lem c.requires.sound.0).few)

pub slice_bounds-store-end : goal.slice_bounds-store-end
slice_bounds-store-end c = omega (arith, inside (goal.at.slice_bounds-store-end c).Start)

pub returns : goal.returns
returns c =
    let a = c.args in
    let ws = a.lines.now in
    let n = a.run.held in
    let lines = lines_in n ws in
    let count = counted a.run.form a.n a.block.now in
    let before = c.in_ok-before.before in
    let new = line_words a.ssrc (count before) in
    let found = told (goal.at.returns c).After-load ∙ c.ok_or.ensures.ok_part ∙ ap result_ok c.in_ok-before.was in
    let store = c.store in
    let made = c.counted-totals.ensures in
    let size : 13 * a.at + 13 - 13 * a.at ≡ 13 = omega arith in
    let same : n ≡ length (renewed_by ssrc_in new lines) = sym (ap length (renewed_at ssrc_in new lines) ∙ length-set lines _ new ∙ length-lines n ws) in
    let sound = is_sound_lem c.requires.sound.0 in
    takes_goes a.run ws (ap (held_line in_words count a.ssrc lines) found) same
    (line_renewed ws n a.at (13 * a.at + 13 - 13 * a.at) a.ssrc (count before) store.new.line size (store.ensures ∙ ap (line_words a.ssrc) made)
    c.requires.placed.1 c.requires.placed.0 (omega (arith, sound.room, sound.few)))
