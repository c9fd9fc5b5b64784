-- Effects that fit a map: what a store has to know of what it keeps.
use Rattle.std.specs.Prelude.{◌≡◌, ◌<◌, ◌==◌, ℕ, Bool, List, [], ◌∷◌, length, map, count_by, true}
use Rattle.std.specs.List.{AllByRecursion, list_all}
use Rattle.dip_map.specs.Charts.{Chart, powers}
use Rattle.dip_desk_state.specs.State.{Effect, Nothing, Pending, Votes, Delivers, NewSeat, Opens, Publishes, Seats}
use Rattle.dip_desk_state.specs.Writable.{IsPlainItem, IsPublicOf, IsVoteOf}

-- each is less than all after it
abbrev pub AreAscending : List ℕ → Type 0
AreAscending [] = Unit {0}
AreAscending (p ∷ ps) = AllByRecursion (λ q. p < q) ps × AreAscending ps

-- whether each power of the map has one seat
abbrev pub are_complete : Chart → List NewSeat → Bool
are_complete m seats = list_all (λ p. count_by (λ s. s.power == p) seats == 1) (powers m)

-- provinces and powers are the map's: standing orders are one a province, by province; a vote names powers in order, each once; press can be
-- written; a new game's public part is one of the map, its paper is the first, and each power has one seat; so is the public part after a
-- paper
abbrev pub FitsMap : Chart → Effect → Type 0
FitsMap m Nothing = Unit {0}
FitsMap m (Pending orders) = AreAscending (map (λ o. o.province) orders) × AllByRecursion (λ o. o.province < length m.provinces) orders
FitsMap m (Votes vote) = IsVoteOf m vote
FitsMap m (Delivers readers item) = AllByRecursion (λ p. p < length m.realms) readers × IsPlainItem item
FitsMap m (Opens public paper seats) =
    IsPublicOf m public × (public.papers ≡ 1) × (are_complete m seats ≡ true) × AllByRecursion (λ s. s.power < length m.realms) seats
FitsMap m (Publishes public paper played) = IsPublicOf m public
FitsMap m (Seats seat) = seat.power < length m.realms
