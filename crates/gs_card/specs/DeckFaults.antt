-- Why three texts make no deck: the first refusal that applies. Source: this project's game files.
use Rattle.std.specs.{Prelude.{ℕ, ◌*◌, ◌==◌, ◌||◌, ◌&&◌, not, List, length, nat_lt, codes, Option, Some, None, if◌then◌else◌}, List.{list_all}}
use Rattle.std.specs.Char.{is_ascii_alphanumeric, is_ascii_digit}
use Rattle.gs_card.specs.{Decks.{repeats}, declared.faults.DeckFault.{DeckFault}, declared.faults.TheConstants.{MOST_KINDS}}
use Rattle.gs_card.specs.declared.faults.DeckFault.TheVariants.{NoCards, BadLetter, RepeatedLetter, TooManyKinds, BadCopies}

-- the first refusal that applies to the texts of the ranks, the suits and the copies: no ranks or no suits; a byte of these two that is no ASCII letter or
-- digit; a letter that occurs twice in the ranks or twice in the suits; more than `MOST_KINDS` kinds; copies that are neither empty nor one digit for each kind
abbrev pub fault_of : List ℕ → List ℕ → List ℕ → Option DeckFault
fault_of ranks suits copies =
    if (length ranks == 0) || (length suits == 0) then Some NoCards
    else if not (list_all is_ascii_alphanumeric ranks && list_all is_ascii_alphanumeric suits) then Some BadLetter
    else if repeats ranks || repeats suits then Some RepeatedLetter
    else if nat_lt MOST_KINDS (length ranks * length suits) then Some TooManyKinds
    else if not ((length copies == 0) || ((length copies == length ranks * length suits) && list_all is_ascii_digit copies)) then Some BadCopies
    else None

-- the text of a fault
abbrev pub fault_text : DeckFault → List ℕ
fault_text NoCards = codes "deck: no cards"
fault_text BadLetter = codes "deck: bad letter"
fault_text RepeatedLetter = codes "deck: repeated letter"
fault_text TooManyKinds = codes "deck: too many kinds"
fault_text BadCopies = codes "deck: bad copies"
