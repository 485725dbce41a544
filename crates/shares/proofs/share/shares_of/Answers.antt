use Rattle.std.proofs.Common.{◌%◌, ap, ◌∙◌, arith, to_z-of_z}
use Rattle.shares.specs.Share.{share_of, sine_share, cosine_share}
use Rattle.shares.proofs.Limits.{share-sine, share-cosine}
use Rattle.shares.proofs.share.shares_of.Goals as goal

pub returns : goal.returns
unfolding sine_share cosine_share
returns c =
    let s = to_z-of_z {w = mir.Syntax.w32} {z = c.share.result} (record { sfits = c.share.type_inv }) ∙ (c.share.ensures ∙ ap share_of c.sine_and_cosine-sine.ensures.sine_is) in
    let t = to_z-of_z {w = mir.Syntax.w32} {z = c.share-2.result} (record { sfits = c.share-2.type_inv }) ∙ (c.share-2.ensures ∙ ap share_of c.sine_and_cosine-sine.ensures.cosine_is) in
    record {
      sine_is = s;
      cosine_is = t;
      sine_near = rw s (share-sine c.args.y (c.args.k % 64) (omega arith));
      cosine_near = rw t (share-cosine c.args.y (c.args.k % 64) (omega arith));
    }
