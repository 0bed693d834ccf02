-- The bench readings, computed: each is refl. Rests on specs/Bench.
use Rattle.std.specs.Prelude.{refl}
use Rattle.model.specs.Bench.{Table}

pub table : Table
table =
    record {
      q_keys = refl;
      q = refl;
      p1 = refl;
      p2 = refl;
      p3 = refl;
      p3_precursors = refl;
      p4 = refl;
      p5 = refl;
      p6 = refl;
      p7 = refl;
      p8 = refl;
      p8_nothing = refl;
      p9_stays = refl;
      p9_moves = refl;
      p10 = refl;
      p10_empty = refl;
      p11 = refl;
      p12 = refl;
      p12_inserted = refl;
    }
