use Rattle.functions.proofs.Wording.{on-words}
use Rattle.functions.proofs.circular.on_word.Goals as goal

pub returns-clause-near : goal.returns-clause-near
returns-clause-near g c = let f = g.F.Circular in on-words f.answer f.near g.met.F.Circular.stays g.met.F.Circular.keeps c.args.word c.at.result c.at.ensures
