-- `colour::fill_table`: the sizes, the list of places, then the edges. Assumes nothing.
use Rattle.table.proofs.Filling.{none_entered}
use Rattle.colour.proofs.Filling.{marked_filled}
use Rattle.colour.proofs.fill_table.Goals as goal

pub enter_edges-requires : goal.enter_edges-requires
enter_edges-requires c =
    none_entered _ _ _ _ _ _ _ c.requires c.fill_sizes.ensures c.put_places.ensures

pub returns : goal.returns
returns c =
    let a = c.args in
    marked_filled _ a.g.now.vertices a.g.now.channels a.g.now.ranged a.g.now.some _ _ _ _ _ c.fill_sizes.ensures c.put_places.ensures c.edge_rows-rows.ensures c.enter_edges.ensures
