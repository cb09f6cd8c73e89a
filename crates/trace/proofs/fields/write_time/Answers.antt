use Rattle.numbers.proofs.BigEndian.{bytes_mod}
use Rattle.trace.proofs.fields.write_time.Goals as goal

pub returns-in-One : goal.returns-in-One
returns-in-One c =
    let time = c.args.time in
    rw c.in-One.is (rw (bytes_mod 4 time) at c.write32.ensures)

pub returns-in-Two : goal.returns-in-Two
returns-in-Two c = rw c.in-Two.is c.write48.ensures
