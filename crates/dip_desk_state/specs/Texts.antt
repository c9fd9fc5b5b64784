-- How a game stands, and a reply, as they are printed.
use Rattle.std.specs.Prelude.{ℕ, List, ◌++◌, codes, flat_map, Option, None, Some}
use Rattle.std.specs.Fmt.{decimal}
use Rattle.dip_map.specs.Charts.{Chart, realm}
use Rattle.dip_desk_state.specs.Records.{Head, Reply, Status, Running, Paused, Closed, Ended, Won, Drawn}

-- how a game stands, with the powers that won or share it
unfoldable pub status_text : Chart → Status → List ℕ
status_text m Running = codes "running"
status_text m Paused = codes "paused"
status_text m Closed = codes "closed"
status_text m Ended = codes "ended"
status_text m (Won power) = codes "won by " ++ (realm m power).name
status_text m (Drawn powers) = codes "drawn by" ++ flat_map (λ p. codes " " ++ (realm m p).name) powers

abbrev pub head_text : Option Head → List ℕ
head_text None = codes "REPLY nobody 0\n"
head_text (Some h) = codes "REPLY " ++ h.game ++ codes " " ++ h.sender ++ codes " " ++ decimal h.number ++ codes "\n"

-- a reply: its head, its lines, END
abbrev pub reply_text : Reply → List ℕ
reply_text r = head_text r.head ++ r.text ++ codes "END\n"
