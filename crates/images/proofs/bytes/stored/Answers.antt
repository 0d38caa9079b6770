-- `images::bytes::stored` meets its contract: its masks store bit by bit what the card says.
-- Assumes nothing.
use borrow.Author.Rules.{rules}
use Rattle.images.proofs.Masks.{masks}
use Rattle.images.proofs.bytes.stored.Goals as goal

pub returns : goal.returns
returns c = masks 8 c.args.masks.writable c.args.masks.clears c.args.old c.args.new (search rules) c.ranges.old.fits c.ranges.new.fits
