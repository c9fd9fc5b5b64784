-- The public part of a game as a JSON value.
use Rattle.std.specs.Prelude.{map, codes}
use Rattle.std.specs.Str.Lines.{lines}
use Rattle.serde_json.specs.Data.{Data, array, boolean, member, no_members, number, object, string, unsigned}
use Rattle.serde_json.specs.View.{items_of}
use Rattle.dip_map.specs.Charts.{Chart}
use Rattle.dip_desk_state.specs.Records.{Public}
use Rattle.dip_reports.specs.Texts.{board_lines, phase_text}
use Rattle.dip_desk_state.specs.Texts.{status_text}

-- its members, in the order of their keys
abbrev pub state_data : Chart → Public → Data
state_data m p = object
    (member (codes "board") (array (items_of (map string (lines (board_lines m p.board)))))
    (member (codes "due") (number (unsigned p.due))
    (member (codes "game") (string p.game)
    (member (codes "grey") (boolean p.grey)
    (member (codes "intent") (boolean p.board.intent)
    (member (codes "papers") (number (unsigned p.papers))
    (member (codes "period") (number (unsigned p.period))
    (member (codes "phase") (string (phase_text p.board.phase))
    (member (codes "status") (string (status_text m p.status)) no_members)))))))))
