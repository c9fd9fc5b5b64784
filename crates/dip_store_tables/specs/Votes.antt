-- A seat's vote as the text of its ballot.
use Rattle.std.specs.Prelude.{◌≡◌, List, ℕ, codes, map, Option, None, Some, bytes_eq, if◌then◌else◌}
use Rattle.std.specs.List.{find}
use Rattle.dip_map.specs.Charts.{Chart}
use Rattle.dip_desk_state.specs.Records.{Vote, No, Yes, For}
use Rattle.dip_desk_state.specs.Writable.{IsVoteOf}
use Rattle.dip_store_tables.specs.Boards.{power_in, power_name}
use Rattle.dip_store_rows.specs.Tables.{BallotRow, is_ballot}
use Rattle.dip_store_tables.specs.Texts.{joined, pieces}

-- NO, YES, or the names of the powers, joined by spaces
abbrev pub ballot_text : Chart → Vote → List ℕ
ballot_text m No = codes "NO"
ballot_text m Yes = codes "YES"
ballot_text m (For powers) = joined 32 (map (power_name m) powers)

-- the vote that a ballot's text says
abbrev pub vote_of : Chart → List ℕ → Vote
vote_of m text =
    if bytes_eq text (codes "NO") then No else if bytes_eq text (codes "YES") then Yes
    else For (map (power_in m) (pieces 32 text))

-- what the first ballot of a seat says; no draw where it has none
abbrev pub vote_on : Chart → Option BallotRow → Vote
vote_on m None = No
vote_on m (Some b) = vote_of m b.names

abbrev pub vote_in : Chart → List BallotRow → List ℕ → List ℕ → Vote
vote_in m ballots name power = vote_on m (find (is_ballot name power) ballots)

-- the text of a vote of the map
abbrev pub IsBallotText : Chart → List ℕ → Type 0
IsBallotText m text = (v : Vote) × IsVoteOf m v × (text ≡ ballot_text m v)
