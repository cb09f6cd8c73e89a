-- Each theorem that has hypotheses, at the values that meet them: what `Met` says is what the theorems ask. Assumes nothing.
use Rattle.std.specs.Prelude.{None}
use mathlib.Core.Path.{◌≡◌, refl}
use mathlib.Core.List.{[], ◌∷◌}
use Prim.Native.Nat.{ℕ}
use native.Mathlib.Omega.{arith}
use lib.IntN.{pos}
use lib.ListN.{length, take, replicate}
use Rattle.answers.specs.declared.Refusal.TheVariants.{PacketSize}
use Rattle.answers.proofs.Stores.{room_is_exact, room_is_asked}
use Rattle.numbers.proofs.Differences.{since_exact, signed_exact}
use Rattle.format.specs.declared.Form.TheVariants.{One}
use Rattle.source.proofs.Kept.{sound_stays}
use Rattle.report.specs.Reports.{feedback_bytes}
use Rattle.rtcp.specs.declared.Profile.{Profile}
use Rattle.rtcp.proofs.Profiles.{profiles_agree}
use Rattle.sources.specs.Compounds.{receiver_report}
use Rattle.trace.proofs.ReadBack.{label_reads_back, arrivals_read_back}
use Rattle.trace.proofs.Accepted.{label_is_written, arrivals_are_written}
use Rattle.trace.proofs.Theorems.{one_check, spaced_reads}
use Rattle.answers.specs.Texts.{codes}
use Rattle.table.proofs.RowFits.{row_fits}
use Rattle.table.proofs.NumberLines.{number_fits_lem}
use Rattle.table.proofs.RefusedLines.{refused_fits}
use Rattle.table.proofs.RowSplits.{row_splits}
use Rattle.table.proofs.Splitting.{line_splits}
use Rattle.walk.proofs.Walks.{nothing_follows}
use Rattle.walk.proofs.Putting.{step_room_is_exact}
use Rattle.convert.specs.Runs.{call_next, row_in}
use Rattle.convert.specs.Tables.{ecntable}
use Rattle.demands.specs.Calls.{run}
use Rattle.demands.specs.Witnesses.{wrapped, reordered, c1_packets, text, label, c1_block, whole, cut, begun}
use Rattle.forms.specs.Witnesses.{trace}
use Rattle.forms.proofs.Witnesses.{met as forms-met}
use Rattle.demands.proofs.BothForms.{both_forms}
use Rattle.demands.proofs.Demand.{demand3}
use Rattle.demands.proofs.PrintedTable.{table_holds_count, same_last_row}
use Rattle.demands.proofs.ReadBack.{feedback_reads_back, summary_reads_back}
use Rattle.demands.proofs.Witnesses.{met}

used : Unit {0}
used =
    let d = demand3 wrapped met.described in
    let order = d.order reordered met.again.0 met.again.1 met.again.2 in
    let row = d.row text 1 3 2 met.label_ok_lem met.few_jumped met.few_restarts in
    let table = table_holds_count whole text 1 c1_packets met.c1_described met.held in
    let table-last = table.last (omega arith) in
    let last = same_last_row whole cut text 1 c1_packets c1_packets met.c1_described met.c1_described met.held met.recut (λ p. refl) refl (omega arith) in
    let follows = nothing_follows _ ecntable 1 (record { run = begun; zeroth = label }) ([] ∷ []) (c1_block ∷ []) _ met.ends in
    let label-back = label_reads_back One text 1 met.label_ok_lem met.ssrcs.1 in
    let label_written = label_is_written One label (length text) 1 met.label_bytes met.label_reads in
    let label-spaced = spaced_reads One label (length text) 1 met.label_bytes met.label_reads in
    let label_same = label-spaced.same met.label_new in
    let check = one_check label label met.label_bytes met.label_bytes met.label_long met.label_long met.label_right met.label_right refl in
    let splits = row_splits text 1 (record { source = run c1_packets; jumped = 3; restarts = 2 }) [] met.label_ok_lem in
    let line = line_splits text (codes "a \"b\"" ∷ []) [] met.plain in
    let arrivals-back = arrivals_read_back One (0 ∷ 20 ∷ []) (65534 ∷ 65535 ∷ []) (2 ∷ 2 ∷ []) 1 met.lists_fit met.numbers_fit_lem met.ssrcs.1 in
    let arrivals-written = arrivals_are_written One c1_block 5 1 met.arrivals_bytes met.arrivals_read in
    let found_back = arrivals-back.1 0 (omega arith) in
    let found-written = arrivals-written.1 0 (record { time = 0; number = record { 0 = 0 }; mark = 0 }) (omega arith) in
    let since = since_exact 16 (pos 65540) (pos 65530) met.since.0 met.since.1 in
    let signed = signed_exact 15 (pos 2) (pos 7) met.signed.0 met.signed.1 in
    let stays = sound_stays (run c1_packets) (record { 0 = 4 }) 1 (omega arith) met.c1_sound in
    let feedback = feedback_reads_back (run c1_packets) 5 9 1 Profile.ReducedSize met.ssrcs.0 met.ssrcs.1 in
    let summary = summary_reads_back (run c1_packets) 5 1 Profile.ReducedSize met.ssrcs.1 in
    let accepted = (profiles_agree (receiver_report 5) 1).accepted _ met.rr_read in
    let refused = (profiles_agree (take 6 (receiver_report 5)) 1).refused PacketSize (λ e. let z : ◌≡◌ {A = ℕ} 0 1 = cc in absurd (omega arith)) met.rr_cut in
    let fits = row_fits text 1 (record { source = run c1_packets; jumped = 3; restarts = 2 }) met.ssrcs.1 met.row_accepted in
    let number = number_fits_lem 3 (omega arith) in
    let refused-line = refused_fits 14 3 (omega arith) (omega arith) in
    let room = room_is_exact None (feedback_bytes 9 1 (run c1_packets)) (replicate 31 0) 32 met.room in
    let room-given = room.given (replicate 32 0) refl in
    let room-changed = room.changed (replicate 32 0) refl in
    let room-fewer = room.fewer (replicate 31 0) (omega arith) in
    let room-asked = room_is_asked (feedback_bytes 9 1 (run c1_packets)) (replicate 31 0) (omega (arith, room.long)) in
    let row_room = step_room_is_exact _ begun (call_next begun label c1_block) (row_in label (call_next begun label c1_block)) (replicate 40 0) 41 met.row_room in
    let forms = both_forms trace One 2 1 forms-met.octets forms-met.label forms-met.taken forms-met.some in
    tt
