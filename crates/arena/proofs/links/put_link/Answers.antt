-- `arena::links::put_link` writes the words of a link one after the other.
use Rattle.std.proofs.Common.{◌≡◌, suc, refl, arith}
use Rattle.model.specs.Arena.{to_column, far_column}
use Rattle.arena.specs.Linked.{put_link}
use Rattle.arena.proofs.links.put_link.Goals as goal

pub returns : goal.returns
unfolding put_link
returns c =
    let e : far_column c.args.l ≡ suc (to_column c.args.l) = omega arith in
    rw (c.put-2.ensures, c.put.ensures, e) refl
