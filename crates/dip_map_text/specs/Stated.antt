-- The map that a text states, or its first fault: the file's own (M1, M2), its limits (M6), its codes looked up (M3), and the checks of
-- a map's parts (M3, M5, M4). Want of memory (M7) may come in place of any.
use Rattle.std.specs.Prelude.{ℕ, ◌+◌, ◌&&◌, nat_le, Bool, List, [], ◌∷◌, length, Option, Some, None, Result, Ok, Err, option_and_then, slice_get, if◌then◌else◌}
use Rattle.std.specs.List.{position}
use Rattle.std.specs.Str.{bytes_eq}
use Rattle.dip_map_file.specs.Drafts.{Site, UnitDraft, Draft, ProvinceDraft, ShoreDraft, PowerDraft}
use Rattle.dip_map_file.specs.Files.{file_in, draft_at}
use Rattle.dip_names.specs.declared.faults.MapFault.{MapFault}
use Rattle.dip_names.specs.declared.faults.MapFault.TheVariants.{UnknownName, OverLimit}
use Rattle.dip_names.specs.declared.names.Kind.{Kind}
use Rattle.dip_names.specs.declared.names.Kind.TheVariants.{Army, Fleet}
use Rattle.dip_names.specs.declared.names.Place.{Place}
use Rattle.dip_names.specs.declared.names.Unit.{Unit as AUnit}
use Rattle.dip_map_chart.specs.Charts.{Chart, Province, Realm, Shore}
use Rattle.dip_map.specs.Checked.{check}
use Rattle.dip_names.specs.Results.{◌>>=◌}

-- what is defined
abbrev pub or_unknown : {A : Type 0} → Option A → Result A MapFault
or_unknown (Some x) = Ok x
or_unknown None = Err UnknownName

-- each of a list, looked up the same way
abbrev pub each : {A B : Type 0} → (A → Result B MapFault) → List A → Result (List B) MapFault
each f [] = Ok []
each f (x ∷ xs) = do
  y ← f x
  ys ← each f xs
  Ok (y ∷ ys)

-- each of a list, looked up with its number, where the first one has number k
abbrev pub each_from : {A B : Type 0} → (ℕ → A → Result B MapFault) → ℕ → List A → Result (List B) MapFault
each_from f k [] = Ok []
each_from f k (x ∷ xs) = do
  y ← f k x
  ys ← each_from f (k + 1) xs
  Ok (y ∷ ys)

-- the number of a code
unfoldable pub prov_at : Draft → List ℕ → Result ℕ MapFault
prov_at d code = or_unknown (position (λ p. bytes_eq p.code code) d.provinces)

-- the number of a coast; what has no name is the only one of a province that has no coasts of its own
unfoldable pub coast_at : Draft → ℕ → List ℕ → Result ℕ MapFault
coast_at d p name = or_unknown (option_and_then (λ (l : ProvinceDraft). position (λ s. bytes_eq s.name name) l.shores) (slice_get d.provinces p))

-- a place where a fleet may be
unfoldable pub place_at : Draft → Site → Result Place MapFault
place_at d s = do
  p ← prov_at d s.code
  k ← coast_at d p s.coast
  Ok (record { prov = p; coast = k })

-- a unit of a power
abbrev pub unit_of : Draft → ℕ → Kind → Site → Result AUnit MapFault
unit_of d r Army s = do
  p ← prov_at d s.code
  Ok (record { power = r; kind = Army; place = record { prov = p; coast = 0 } })
unit_of d r Fleet s = do
  a ← place_at d s
  Ok (record { power = r; kind = Fleet; place = a })

abbrev pub unit_at : Draft → ℕ → UnitDraft → Result AUnit MapFault
unit_at d r u = unit_of d r u.kind u.site

-- a coast with its neighbours looked up
unfoldable pub shore_at : Draft → ShoreDraft → Result Shore MapFault
shore_at d s = do
  next ← each (place_at d) s.next
  Ok (record { name = s.name; next = next })

-- a province with the neighbours of armies and of fleets looked up
unfoldable pub province_at : Draft → ProvinceDraft → Result Province MapFault
province_at d p = do
  next ← each (prov_at d) p.army
  shores ← each (shore_at d) p.shores
  Ok (record { code = p.code; name = p.name; terrain = p.terrain; centre = p.centre; army = next; shores = shores })

-- a power with its home centres and its units at the opening looked up
unfoldable pub realm_at : Draft → ℕ → PowerDraft → Result Realm MapFault
realm_at d r p = do
  home ← each (prov_at d) p.home
  units ← each (unit_at d r) p.units
  Ok (record { name = p.name; home = home; units = units })

-- the parts of the map, each code looked up
unfoldable pub chart_at : Draft → Result Chart MapFault
chart_at d = do
  realms ← each_from (realm_at d) 0 d.powers
  provinces ← each (province_at d) d.provinces
  Ok (record { name = d.name; realms = realms; provinces = provinces })

-- whether a map may have so many powers and provinces
abbrev pub is_few : Draft → Bool
is_few d = (nat_le 1 (length d.powers) && nat_le (length d.powers) 7) && (nat_le 1 (length d.provinces) && nat_le (length d.provinces) 200)

abbrev pub within_limits : Draft → Result Draft MapFault
within_limits d = if is_few d then Ok d else Err OverLimit

-- the parts of the map, within the limits
abbrev pub parts_at : Draft → Result Chart MapFault
parts_at d = within_limits d >>= chart_at

-- the map that a file's draft states
abbrev pub chart_of : Draft → Result Chart MapFault
chart_of d = do
  m ← parts_at d
  check m

-- the map that a text states
unfoldable pub map_in : List ℕ → Result Chart MapFault
map_in text = do
  file ← file_in text
  draft ← draft_at file
  chart_of draft
