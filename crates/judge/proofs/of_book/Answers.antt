-- Each case is that of the definition.
use mathlib.Core.Path.{sym, ap}
use Rattle.judge.specs.Judged.{of_book}
use Rattle.judge.proofs.of_book.Goals as goal

pub returns-in-ShortWork : goal.returns-in-ShortWork
returns-in-ShortWork c = sym (ap (of_book c.args.place) c.in-ShortWork.is)

pub returns-in-ShortBuffer : goal.returns-in-ShortBuffer
returns-in-ShortBuffer c = sym (ap (of_book c.args.place) c.in-ShortBuffer.is)

pub returns-in-Cut : goal.returns-in-Cut
returns-in-Cut c = sym (ap (of_book c.args.place) c.in-Cut.is)

pub returns-in-UnknownKind : goal.returns-in-UnknownKind
returns-in-UnknownKind c = sym (ap (of_book c.args.place) c.in-UnknownKind.is)

pub returns-in-Misplaced : goal.returns-in-Misplaced
returns-in-Misplaced c = sym (ap (of_book c.args.place) c.in-Misplaced.is)

pub returns-in-WrongCount : goal.returns-in-WrongCount
returns-in-WrongCount c = sym (ap (of_book c.args.place) c.in-WrongCount.is)

pub returns-in-WrongNumber : goal.returns-in-WrongNumber
returns-in-WrongNumber c = sym (ap (of_book c.args.place) c.in-WrongNumber.is)

pub returns-in-OutOfRange : goal.returns-in-OutOfRange
returns-in-OutOfRange c = sym (ap (of_book c.args.place) c.in-OutOfRange.is)

pub returns-in-TooManyRuns : goal.returns-in-TooManyRuns
returns-in-TooManyRuns c = sym (ap (of_book c.args.place) c.in-TooManyRuns.is)

pub returns-in-NoStar : goal.returns-in-NoStar
returns-in-NoStar c = sym (ap (of_book c.args.place) c.in-NoStar.is)

pub returns-in-NotWhole : goal.returns-in-NotWhole
returns-in-NotWhole c = sym (ap (of_book c.args.place) c.in-NotWhole.is)

pub returns-in-NoTurn : goal.returns-in-NoTurn
returns-in-NoTurn c = sym (ap (of_book c.args.place) c.in-NoTurn.is)

pub returns-in-Miscounted : goal.returns-in-Miscounted
returns-in-Miscounted c = sym (ap (of_book c.args.place) c.in-Miscounted.is)

pub returns-in-OtherJob : goal.returns-in-OtherJob
returns-in-OtherJob c = sym (ap (of_book c.args.place) c.in-OtherJob.is)

pub returns-in-Untrue : goal.returns-in-Untrue
returns-in-Untrue c = sym (ap (of_book c.args.place) c.in-Untrue.is)

pub returns-in-Coincident : goal.returns-in-Coincident
returns-in-Coincident c = sym (ap (of_book c.args.place) c.in-Coincident.is)
