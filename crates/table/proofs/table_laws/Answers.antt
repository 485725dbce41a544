use Rattle.table.proofs.Table.{table-sine, table-cosine, good}
use Rattle.table.proofs.Tangents.{table_tangent_lem}
use Rattle.table.proofs.Against.{sine-against, cosine-against}
use Rattle.table.proofs.TangentAgainst.{tangent_against, tangent_nearer}
use Rattle.table.proofs.table_laws.Goals as goal

pub returns : goal.returns
returns c =
    record {
      sines = λ k h. ((table-sine k h).held, good (table-sine k h));
      cosines = λ k h. ((table-cosine k h).held, good (table-cosine k h));
      tangents = table_tangent_lem;
      sine = sine-against;
      cosine = cosine-against;
      tangent = tangent_against;
      nearer = tangent_nearer;
    }
