use Rattle.meaning.proofs.laws.confinement_for.Goals as goal
use Rattle.meaning.proofs.Confinement.{confined}

pub returns : goal.returns
returns g c =
    let f = c.args.family.now in
    confined _ (record {
      small = g.met.F.LevelFamily.small f;
      bottom = g.met.F.LevelFamily.bottom f;
      neutral = g.met.F.LevelFamily.neutral f;
      closed = g.met.F.LevelFamily.closed f;
      commutes = g.met.F.LevelFamily.commutes f;
      groups = g.met.F.LevelFamily.groups f;
      same = g.met.F.LevelFamily.same f;
      applies = g.met.F.LevelFamily.applies f;
    })
