-- `Page::bytes` meets its contract: the bytes are copied to where the page stands.
use mathlib.Core.Path.{refl}
use Rattle.figures_text.proofs.Putting.{copied, kept}
use Rattle.figures_text.proofs.Page.bytes.Goals as goal

pub returns : goal.returns
returns c =
    let p = copied c.args.self.now.out.now c.args.more.now c.args.self.now.at c.requires in
    rw c.copy_from_slice.ensures.after (record { put = p; long = kept p c.requires; same = refl })
