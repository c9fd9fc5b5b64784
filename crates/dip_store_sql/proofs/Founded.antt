-- Each of our CREATE TABLE texts, after those before it, fails for want of memory, or by the disk where the store told of a fault.
use Rattle.std.proofs.Common.{◌≡◌, [], ◌∷◌, codes, Err, IsTrue, refl}
use Rattle.std.specs.Fmt.{digits}
use Rattle.sqlite.specs.declared.error.Error.{Error}
use Rattle.sqlite.specs.State.{State, ExecutesInside}
use Rattle.sqlite.specs.Listing.{understood}
use Rattle.sqlite_trees.specs.Sound.{begins, fits_kind, is_free_name, same_name}
use Rattle.sqlite_value.specs.Order.{value_cmp}
use Rattle.sqlite_tied.specs.Compute.{everything}
use Rattle.dip_store_sql.specs.Causes.{Faulted, IsCaused}
use Rattle.dip_store_sql.specs.Creating.{no_schema, create_desk, create_game, create_seat, create_unit, create_centre, create_pending, create_box, create_paper, create_ballot, create_choice}
use Rattle.dip_store_sql.specs.Schema.{desk_table, game_table, seat_table, unit_table, centre_table, pending_table, box_table, paper_table, ballot_table, choice_table}
use Rattle.dip_store_sql.proofs.Created.{made}
use Rattle.dip_store_sql.proofs.Defined.{desk_defined, game_defined, seat_defined, unit_defined, centre_defined, pending_defined, box_defined, paper_defined, ballot_defined, choice_defined}
use Rattle.dip_store_sql.proofs.Founding.{HasPlace, IsMade, create_caused_inside, maker_of}

desk_means : IsMade create_desk (understood no_schema create_desk)
unfolding understood everything
desk_means = (refl, refl, refl, refl, refl, refl)

desk_place : HasPlace no_schema create_desk (record desk_table { tree = 0 })
unfolding understood everything digits lib.Utf8.encode fits_kind is_free_name begins same_name value_cmp lib.Ieee.is_nan lib.Ieee.lt
desk_place = record { utf8 = (create_desk, (refl, refl)); name = (codes "desk", (refl, refl)); free = refl; indexes = (refl, tt); plain = refl; few = refl; reals = refl; keys = (refl, tt); formed = refl; fit = refl; short = refl }

pub desk_caused : (old new : State) → old.now.schema ≡ no_schema → IsTrue old.is_open → (e : Error) → ExecutesInside 0 create_desk [] old new (Err e) → IsCaused (Faulted old new) e
desk_caused old new has up e h = create_caused_inside no_schema create_desk (record desk_table { tree = 0 }) desk_defined refl desk_place (maker_of create_desk (understood no_schema create_desk) desk_means) old new has up e h

game_means : IsMade create_game (understood (made (desk_table ∷ [])) create_game)
unfolding understood everything
game_means = (refl, refl, refl, refl, refl, refl)

game_place : HasPlace (made (desk_table ∷ [])) create_game (record game_table { tree = 0 })
unfolding understood everything digits lib.Utf8.encode fits_kind is_free_name begins same_name value_cmp lib.Ieee.is_nan lib.Ieee.lt
game_place = record { utf8 = (create_game, (refl, refl)); name = (codes "game", (refl, refl)); free = refl; indexes = (refl, tt); plain = refl; few = refl; reals = refl; keys = (refl, tt); formed = refl; fit = refl; short = refl }

pub game_caused : (old new : State) → old.now.schema ≡ (made (desk_table ∷ [])) → IsTrue old.is_open → (e : Error) → ExecutesInside 0 create_game [] old new (Err e) → IsCaused (Faulted old new) e
game_caused old new has up e h = create_caused_inside (made (desk_table ∷ [])) create_game (record game_table { tree = 0 }) game_defined refl game_place (maker_of create_game (understood (made (desk_table ∷ [])) create_game) game_means) old new has up e h

seat_means : IsMade create_seat (understood (made (desk_table ∷ game_table ∷ [])) create_seat)
unfolding understood everything
seat_means = (refl, refl, refl, refl, refl, refl)

seat_place : HasPlace (made (desk_table ∷ game_table ∷ [])) create_seat (record seat_table { tree = 0 })
unfolding understood everything digits lib.Utf8.encode fits_kind is_free_name begins same_name value_cmp lib.Ieee.is_nan lib.Ieee.lt
seat_place = record { utf8 = (create_seat, (refl, refl)); name = (codes "seat", (refl, refl)); free = refl; indexes = (refl, tt); plain = refl; few = refl; reals = refl; keys = (refl, tt); formed = refl; fit = refl; short = refl }

pub seat_caused : (old new : State) → old.now.schema ≡ (made (desk_table ∷ game_table ∷ [])) → IsTrue old.is_open → (e : Error) → ExecutesInside 0 create_seat [] old new (Err e) → IsCaused (Faulted old new) e
seat_caused old new has up e h = create_caused_inside (made (desk_table ∷ game_table ∷ [])) create_seat (record seat_table { tree = 0 }) seat_defined refl seat_place (maker_of create_seat (understood (made (desk_table ∷ game_table ∷ [])) create_seat) seat_means) old new has up e h

unit_means : IsMade create_unit (understood (made (desk_table ∷ game_table ∷ seat_table ∷ [])) create_unit)
unfolding understood everything
unit_means = (refl, refl, refl, refl, refl, refl)

unit_place : HasPlace (made (desk_table ∷ game_table ∷ seat_table ∷ [])) create_unit (record unit_table { tree = 0 })
unfolding understood everything digits lib.Utf8.encode fits_kind is_free_name begins same_name value_cmp lib.Ieee.is_nan lib.Ieee.lt
unit_place = record { utf8 = (create_unit, (refl, refl)); name = (codes "unit", (refl, refl)); free = refl; indexes = (refl, tt); plain = refl; few = refl; reals = refl; keys = (refl, tt); formed = refl; fit = refl; short = refl }

pub unit_caused : (old new : State) → old.now.schema ≡ (made (desk_table ∷ game_table ∷ seat_table ∷ [])) → IsTrue old.is_open → (e : Error) → ExecutesInside 0 create_unit [] old new (Err e) → IsCaused (Faulted old new) e
unit_caused old new has up e h = create_caused_inside (made (desk_table ∷ game_table ∷ seat_table ∷ [])) create_unit (record unit_table { tree = 0 }) unit_defined refl unit_place (maker_of create_unit (understood (made (desk_table ∷ game_table ∷ seat_table ∷ [])) create_unit) unit_means) old new has up e h

centre_means : IsMade create_centre (understood (made (desk_table ∷ game_table ∷ seat_table ∷ unit_table ∷ [])) create_centre)
unfolding understood everything
centre_means = (refl, refl, refl, refl, refl, refl)

centre_place : HasPlace (made (desk_table ∷ game_table ∷ seat_table ∷ unit_table ∷ [])) create_centre (record centre_table { tree = 0 })
unfolding understood everything digits lib.Utf8.encode fits_kind is_free_name begins same_name value_cmp lib.Ieee.is_nan lib.Ieee.lt
centre_place = record { utf8 = (create_centre, (refl, refl)); name = (codes "centre", (refl, refl)); free = refl; indexes = (refl, tt); plain = refl; few = refl; reals = refl; keys = (refl, tt); formed = refl; fit = refl; short = refl }

pub centre_caused : (old new : State) → old.now.schema ≡ (made (desk_table ∷ game_table ∷ seat_table ∷ unit_table ∷ [])) → IsTrue old.is_open → (e : Error) → ExecutesInside 0 create_centre [] old new (Err e) → IsCaused (Faulted old new) e
centre_caused old new has up e h = create_caused_inside (made (desk_table ∷ game_table ∷ seat_table ∷ unit_table ∷ [])) create_centre (record centre_table { tree = 0 }) centre_defined refl centre_place (maker_of create_centre (understood (made (desk_table ∷ game_table ∷ seat_table ∷ unit_table ∷ [])) create_centre) centre_means) old new has up e h

pending_means : IsMade create_pending (understood (made (desk_table ∷ game_table ∷ seat_table ∷ unit_table ∷ centre_table ∷ [])) create_pending)
unfolding understood everything
pending_means = (refl, refl, refl, refl, refl, refl)

pending_place : HasPlace (made (desk_table ∷ game_table ∷ seat_table ∷ unit_table ∷ centre_table ∷ [])) create_pending (record pending_table { tree = 0 })
unfolding understood everything digits lib.Utf8.encode fits_kind is_free_name begins same_name value_cmp lib.Ieee.is_nan lib.Ieee.lt
pending_place = record { utf8 = (create_pending, (refl, refl)); name = (codes "pending", (refl, refl)); free = refl; indexes = (refl, tt); plain = refl; few = refl; reals = refl; keys = (refl, tt); formed = refl; fit = refl; short = refl }

pub pending_caused : (old new : State) → old.now.schema ≡ (made (desk_table ∷ game_table ∷ seat_table ∷ unit_table ∷ centre_table ∷ [])) → IsTrue old.is_open → (e : Error) → ExecutesInside 0 create_pending [] old new (Err e) → IsCaused (Faulted old new) e
pending_caused old new has up e h = create_caused_inside (made (desk_table ∷ game_table ∷ seat_table ∷ unit_table ∷ centre_table ∷ [])) create_pending (record pending_table { tree = 0 }) pending_defined refl pending_place (maker_of create_pending (understood (made (desk_table ∷ game_table ∷ seat_table ∷ unit_table ∷ centre_table ∷ [])) create_pending) pending_means) old new has up e h

box_means : IsMade create_box (understood (made (desk_table ∷ game_table ∷ seat_table ∷ unit_table ∷ centre_table ∷ pending_table ∷ [])) create_box)
unfolding understood everything
box_means = (refl, refl, refl, refl, refl, refl)

box_place : HasPlace (made (desk_table ∷ game_table ∷ seat_table ∷ unit_table ∷ centre_table ∷ pending_table ∷ [])) create_box (record box_table { tree = 0 })
unfolding understood everything digits lib.Utf8.encode fits_kind is_free_name begins same_name value_cmp lib.Ieee.is_nan lib.Ieee.lt
box_place = record { utf8 = (create_box, (refl, refl)); name = (codes "box", (refl, refl)); free = refl; indexes = (refl, tt); plain = refl; few = refl; reals = refl; keys = (refl, tt); formed = refl; fit = refl; short = refl }

pub box_caused : (old new : State) → old.now.schema ≡ (made (desk_table ∷ game_table ∷ seat_table ∷ unit_table ∷ centre_table ∷ pending_table ∷ [])) → IsTrue old.is_open → (e : Error) → ExecutesInside 0 create_box [] old new (Err e) → IsCaused (Faulted old new) e
box_caused old new has up e h = create_caused_inside (made (desk_table ∷ game_table ∷ seat_table ∷ unit_table ∷ centre_table ∷ pending_table ∷ [])) create_box (record box_table { tree = 0 }) box_defined refl box_place (maker_of create_box (understood (made (desk_table ∷ game_table ∷ seat_table ∷ unit_table ∷ centre_table ∷ pending_table ∷ [])) create_box) box_means) old new has up e h

paper_means : IsMade create_paper (understood (made (desk_table ∷ game_table ∷ seat_table ∷ unit_table ∷ centre_table ∷ pending_table ∷ box_table ∷ [])) create_paper)
unfolding understood everything
paper_means = (refl, refl, refl, refl, refl, refl)

paper_place : HasPlace (made (desk_table ∷ game_table ∷ seat_table ∷ unit_table ∷ centre_table ∷ pending_table ∷ box_table ∷ [])) create_paper (record paper_table { tree = 0 })
unfolding understood everything digits lib.Utf8.encode fits_kind is_free_name begins same_name value_cmp lib.Ieee.is_nan lib.Ieee.lt
paper_place = record { utf8 = (create_paper, (refl, refl)); name = (codes "paper", (refl, refl)); free = refl; indexes = (refl, tt); plain = refl; few = refl; reals = refl; keys = (refl, tt); formed = refl; fit = refl; short = refl }

pub paper_caused : (old new : State) → old.now.schema ≡ (made (desk_table ∷ game_table ∷ seat_table ∷ unit_table ∷ centre_table ∷ pending_table ∷ box_table ∷ [])) → IsTrue old.is_open → (e : Error) → ExecutesInside 0 create_paper [] old new (Err e) → IsCaused (Faulted old new) e
paper_caused old new has up e h = create_caused_inside (made (desk_table ∷ game_table ∷ seat_table ∷ unit_table ∷ centre_table ∷ pending_table ∷ box_table ∷ [])) create_paper (record paper_table { tree = 0 }) paper_defined refl paper_place (maker_of create_paper (understood (made (desk_table ∷ game_table ∷ seat_table ∷ unit_table ∷ centre_table ∷ pending_table ∷ box_table ∷ [])) create_paper) paper_means) old new has up e h

ballot_means : IsMade create_ballot (understood (made (desk_table ∷ game_table ∷ seat_table ∷ unit_table ∷ centre_table ∷ pending_table ∷ box_table ∷ paper_table ∷ [])) create_ballot)
unfolding understood everything
ballot_means = (refl, refl, refl, refl, refl, refl)

ballot_place : HasPlace (made (desk_table ∷ game_table ∷ seat_table ∷ unit_table ∷ centre_table ∷ pending_table ∷ box_table ∷ paper_table ∷ [])) create_ballot (record ballot_table { tree = 0 })
unfolding understood everything digits lib.Utf8.encode fits_kind is_free_name begins same_name value_cmp lib.Ieee.is_nan lib.Ieee.lt
ballot_place = record { utf8 = (create_ballot, (refl, refl)); name = (codes "ballot", (refl, refl)); free = refl; indexes = (refl, tt); plain = refl; few = refl; reals = refl; keys = (refl, tt); formed = refl; fit = refl; short = refl }

pub ballot_caused : (old new : State) → old.now.schema ≡ (made (desk_table ∷ game_table ∷ seat_table ∷ unit_table ∷ centre_table ∷ pending_table ∷ box_table ∷ paper_table ∷ [])) → IsTrue old.is_open → (e : Error) → ExecutesInside 0 create_ballot [] old new (Err e) → IsCaused (Faulted old new) e
ballot_caused old new has up e h = create_caused_inside (made (desk_table ∷ game_table ∷ seat_table ∷ unit_table ∷ centre_table ∷ pending_table ∷ box_table ∷ paper_table ∷ [])) create_ballot (record ballot_table { tree = 0 }) ballot_defined refl ballot_place (maker_of create_ballot (understood (made (desk_table ∷ game_table ∷ seat_table ∷ unit_table ∷ centre_table ∷ pending_table ∷ box_table ∷ paper_table ∷ [])) create_ballot) ballot_means) old new has up e h

choice_means : IsMade create_choice (understood (made (desk_table ∷ game_table ∷ seat_table ∷ unit_table ∷ centre_table ∷ pending_table ∷ box_table ∷ paper_table ∷ ballot_table ∷ [])) create_choice)
unfolding understood everything
choice_means = (refl, refl, refl, refl, refl, refl)

choice_place : HasPlace (made (desk_table ∷ game_table ∷ seat_table ∷ unit_table ∷ centre_table ∷ pending_table ∷ box_table ∷ paper_table ∷ ballot_table ∷ [])) create_choice (record choice_table { tree = 0 })
unfolding understood everything digits lib.Utf8.encode fits_kind is_free_name begins same_name value_cmp lib.Ieee.is_nan lib.Ieee.lt
choice_place = record { utf8 = (create_choice, (refl, refl)); name = (codes "choice", (refl, refl)); free = refl; indexes = (refl, tt); plain = refl; few = refl; reals = refl; keys = (refl, tt); formed = refl; fit = refl; short = refl }

pub choice_caused : (old new : State) → old.now.schema ≡ (made (desk_table ∷ game_table ∷ seat_table ∷ unit_table ∷ centre_table ∷ pending_table ∷ box_table ∷ paper_table ∷ ballot_table ∷ [])) → IsTrue old.is_open → (e : Error) → ExecutesInside 0 create_choice [] old new (Err e) → IsCaused (Faulted old new) e
choice_caused old new has up e h = create_caused_inside (made (desk_table ∷ game_table ∷ seat_table ∷ unit_table ∷ centre_table ∷ pending_table ∷ box_table ∷ paper_table ∷ ballot_table ∷ [])) create_choice (record choice_table { tree = 0 }) choice_defined refl choice_place (maker_of create_choice (understood (made (desk_table ∷ game_table ∷ seat_table ∷ unit_table ∷ centre_table ∷ pending_table ∷ box_table ∷ paper_table ∷ ballot_table ∷ [])) create_choice) choice_means) old new has up e h
