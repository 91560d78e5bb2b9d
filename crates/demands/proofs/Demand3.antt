-- Demand 3. Assumes nothing.
use Rattle.hand.proofs.HandOrder.{order_does_not_matter, start_meets}
use Rattle.hand.proofs.Demands.{same_bytes, start_then_calls}
use Rattle.demands.specs.Demand3.{Demand3}

pub demand_3 : Demand3
demand_3 =
    record {
      alike = λ s K st B. (order_does_not_matter s K st B.proper B.fits B.partners).0;
      left_in = λ s K st B. (order_does_not_matter s K st B.proper B.fits B.partners).1;
      start_begins = λ s K. let x = start_meets s K in record { proper = x.0; fits = x.1; partners = x.2 };
      same_bytes = λ s K b e h B. (same_bytes s K b e h B.fits B.partners).0;
      bytes_left_in = λ s K b e h B. (same_bytes s K b e h B.fits B.partners).1;
      started_bytes = λ s b K e. (start_then_calls s b K e).0;
    }
