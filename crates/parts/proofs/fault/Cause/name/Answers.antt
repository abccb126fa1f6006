use Rattle.std.proofs.Common.{refl}
use Rattle.parts.proofs.fault.Cause.name.Goals as goal

pub returns-in-NoSuchCell : goal.returns-in-NoSuchCell
returns-in-NoSuchCell c = rw c.in-NoSuchCell.is refl

pub returns-in-WordTooWide : goal.returns-in-WordTooWide
returns-in-WordTooWide c = rw c.in-WordTooWide.is refl

pub returns-in-KeyTooLarge : goal.returns-in-KeyTooLarge
returns-in-KeyTooLarge c = rw c.in-KeyTooLarge.is refl

pub returns-in-NotWaiting : goal.returns-in-NotWaiting
returns-in-NotWaiting c = rw c.in-NotWaiting.is refl

pub returns-in-UnfitToOpen : goal.returns-in-UnfitToOpen
returns-in-UnfitToOpen c = rw c.in-UnfitToOpen.is refl

pub returns-in-UnlikeLists : goal.returns-in-UnlikeLists
returns-in-UnlikeLists c = rw c.in-UnlikeLists.is refl

pub returns-in-NoSuchCall : goal.returns-in-NoSuchCall
returns-in-NoSuchCall c = rw c.in-NoSuchCall.is refl

pub returns-in-StampAhead : goal.returns-in-StampAhead
returns-in-StampAhead c = rw c.in-StampAhead.is refl

pub returns-in-TalliesDiffer : goal.returns-in-TalliesDiffer
returns-in-TalliesDiffer c = rw c.in-TalliesDiffer.is refl

pub returns-in-NothingNamed : goal.returns-in-NothingNamed
returns-in-NothingNamed c = rw c.in-NothingNamed.is refl

pub returns-in-SenselessCell : goal.returns-in-SenselessCell
returns-in-SenselessCell c = rw c.in-SenselessCell.is refl

pub returns-in-ReplayEnded : goal.returns-in-ReplayEnded
returns-in-ReplayEnded c = rw c.in-ReplayEnded.is refl
