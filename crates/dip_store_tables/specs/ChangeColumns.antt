-- Changes that the columns can take.
use Rattle.std.specs.Prelude.{◌≡◌, ◌<◌, ◌^◌, length}
use Rattle.std.specs.List.{AllByRecursion}
use Rattle.dip_map.specs.Charts.{Chart}
use Rattle.dip_desk_state.specs.State.{Effect, Nothing, Pending, Votes, Delivers, Opens, Publishes, Seats, Change}
use Rattle.dip_desk_state.specs.Records.{Public}
use Rattle.dip_store_tables.specs.Coding.{IsChangeOf}

-- a due tick is a whole number with a sign, of 64 bits, and a new game has one paper
abbrev pub FitsColumns : Effect → Type 0
FitsColumns Nothing = Unit {0}
FitsColumns (Pending orders) = Unit {0}
FitsColumns (Votes vote) = Unit {0}
FitsColumns (Delivers readers item) = Unit {0}
FitsColumns (Opens public paper seats) = (public.due < 2 ^ 63) × (public.papers ≡ 1)
FitsColumns (Publishes public paper played) = public.due < 2 ^ 63
FitsColumns (Seats seat) = Unit {0}

-- a change that a keeper can write
abbrev pub IsWritable : Chart → Change → Type 0
IsWritable m c = IsChangeOf m c × FitsColumns c.effect

-- the widths of a public part's numbers in code
abbrev pub IsNarrow : Public → Type 0
IsNarrow p = (p.board.phase.year < 2 ^ 16) × (p.period < 2 ^ 32) × (p.papers < 2 ^ 32)

-- digests are of 32 bytes
abbrev pub IsEffectNarrow : Effect → Type 0
IsEffectNarrow Nothing = Unit {0}
IsEffectNarrow (Pending orders) = Unit {0}
IsEffectNarrow (Votes vote) = Unit {0}
IsEffectNarrow (Delivers readers item) = Unit {0}
IsEffectNarrow (Opens public paper seats) = IsNarrow public × AllByRecursion (λ s. length s.digest ≡ 32) seats
IsEffectNarrow (Publishes public paper played) = IsNarrow public
IsEffectNarrow (Seats seat) = length seat.digest ≡ 32

-- numbers, sums and digests are as wide as those of each change in code
abbrev pub HasWidths : Change → Type 0
HasWidths c = (c.kept.number < 2 ^ 32) × (length c.kept.sum ≡ 32) × IsEffectNarrow c.effect
