-- `byte_map_union::plan` meets its contract: right sizes are what the other tests need.
use Rattle.byte_slots.proofs.MapSizes.{sized_fits}
use Rattle.byte_map_union.proofs.plan.Goals as goal

pub room-requires : goal.room-requires
room-requires c = (sized_fits _ c.map_fits.ensures c.if-not-map_fits.false, sized_fits _ c.map_fits-else-not-map_fits.ensures c.if-not-map_fits-2.false)
