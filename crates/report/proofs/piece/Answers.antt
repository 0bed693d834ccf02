-- `report::piece` meets its contract: a read that was broken off feeds nothing, a piece is fed whole.
use native.Mathlib.Omega.{arith}
use Rattle.report.proofs.Onwards.{nothing_read, piece-read}
use Rattle.report.proofs.piece.Goals as goal

pub returns-in-Err : goal.returns-in-Err
returns-in-Err g c = (nothing_read 1, omega arith, omega arith)

pub returns : goal.returns
returns g c =
    let read = c.in-Ok.ensures.bound in
    (piece-read _ read c.feed.ensures, omega arith, omega (arith, read.0, c.large_buffer-buffer.ensures, c.read.auto.buf))
