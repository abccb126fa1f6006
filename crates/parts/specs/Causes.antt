-- The causes of faults, each with its number and its name.
use Rattle.std.specs.Prelude.{ℕ, List, codes}
use Rattle.parts.specs.declared.fault.Cause.{Cause}
use Rattle.parts.specs.declared.fault.Cause.TheVariants.{NoSuchCell, WordTooWide, NoSuchTicket, KeyTooLarge, TicketInUse, NotWaiting, UnfitToOpen, UnlikeLists, NoSuchCall, WiderThanStore, StampAhead, TalliesDiffer, NothingNamed, NamedNotWaiting, KeyBeforeBound, SenselessCell, ReplayEnded}

abbrev pub number_of : Cause → ℕ
number_of NoSuchCell = 1
number_of WordTooWide = 2
number_of NoSuchTicket = 3
number_of KeyTooLarge = 4
number_of TicketInUse = 5
number_of NotWaiting = 6
number_of UnfitToOpen = 7
number_of UnlikeLists = 8
number_of NoSuchCall = 9
number_of WiderThanStore = 21
number_of StampAhead = 22
number_of TalliesDiffer = 23
number_of NothingNamed = 24
number_of NamedNotWaiting = 25
number_of KeyBeforeBound = 26
number_of SenselessCell = 27
number_of ReplayEnded = 28

abbrev pub words_of : Cause → List ℕ
words_of NoSuchCell = codes "no such cell"
words_of WordTooWide = codes "word too wide"
words_of NoSuchTicket = codes "no such ticket"
words_of KeyTooLarge = codes "key too large"
words_of TicketInUse = codes "ticket in use"
words_of NotWaiting = codes "not waiting"
words_of UnfitToOpen = codes "unfit to open"
words_of UnlikeLists = codes "lists of unlike length"
words_of NoSuchCall = codes "no such call"
words_of WiderThanStore = codes "word wider than the store"
words_of StampAhead = codes "stamp ahead of the clock"
words_of TalliesDiffer = codes "tallies differ"
words_of NothingNamed = codes "nothing named"
words_of NamedNotWaiting = codes "named ticket not waiting"
words_of KeyBeforeBound = codes "key before its bound"
words_of SenselessCell = codes "senseless heap cell"
words_of ReplayEnded = codes "replay ended"
