use mathlib.Core.Path.{refl}
use native.Mathlib.Omega.{arith}
use Rattle.std.proofs.Common.{◌%◌, ◌≡◌}
use Rattle.table.specs.Sines.{sin_table, table_sine}
use Rattle.table.proofs.Table.{sine-of-entry}
use Rattle.table.proofs.Text.{sine-near, cosine-near}
use Rattle.table.proofs.sine_and_cosine.Goals as goal

pub returns : goal.returns
unfolding sin_table
returns g c =
    let s : c.entry.result ≡ table_sine (c.args.k % 64) = sine-of-entry c.entry.result (c.args.k % 64) (omega arith) c.entry.ensures in
    rw (c.sine.ensures, c.cosine.ensures, c.make-minus_sin_k.ensures, s, c.sincosf_eval-p.ensures.sin_y, c.sincosf_eval-p.ensures.cosm1_y, c.sincosf_eval-p.ensures.sin_k, c.sincosf_eval-p.ensures.cos_k)
    (record {
      sine_is = refl;
      cosine_is = refl;
      sine_near = λ h. sine-near g.met.T.Form.promise c.args.y h (c.args.k % 64) (omega arith);
      cosine_near = λ h. cosine-near g.met.T.Form.promise c.args.y h (c.args.k % 64) (omega arith);
    })
