-- Ballots and choices, one after another.
use Rattle.std.proofs.Common.{◌≡◌, List, [], ◌++◌, ap, sym, ◌∙◌, append_assoc, append-nil}
use Rattle.dip_store_tables.specs.Tables.{BallotRow, ChoiceRow, Tables}
use Rattle.dip_store_sql.specs.TablesAfter.{more_ballots}
use Rattle.dip_store_schema.specs.Renewing.{more_choices}

pub ballots_on : (bs cs ds : List BallotRow) → ds ≡ bs ++ cs → (t : Tables) → more_ballots cs (more_ballots bs t) ≡ more_ballots ds t
ballots_on bs cs ds is t = ap (λ rows. record t { ballots = rows }) (append_assoc t.ballots bs cs ∙ ap (λ xs. t.ballots ++ xs) (sym is))

pub choices_on : (bs cs ds : List ChoiceRow) → ds ≡ bs ++ cs → (t : Tables) → more_choices cs (more_choices bs t) ≡ more_choices ds t
choices_on bs cs ds is t = ap (λ rows. record t { choices = rows }) (append_assoc t.choices bs cs ∙ ap (λ xs. t.choices ++ xs) (sym is))

pub none_of_ballots : (t : Tables) → more_ballots [] t ≡ t
none_of_ballots t = ap (λ rows. record t { ballots = rows }) (append-nil t.ballots)

pub none_of_choices : (t : Tables) → more_choices [] t ≡ t
none_of_choices t = ap (λ rows. record t { choices = rows }) (append-nil t.choices)
