-- A disloyal queue that accepts everything and names one ticket for ever.
use Rattle.std.specs.Prelude.{ℕ, Some, Ok}
use Rattle.parts.specs.Queues.{most_tickets, nothing_waits, QueueMeaning}

-- a state is the ticket that it names
abbrev pub stubborn : QueueMeaning
stubborn = record {
  State = ℕ;
  loyal = λ _. ⊥;
  capacity = λ _. most_tickets;
  height = λ _. 0;
  entries = λ _. nothing_waits;
  named = λ t. Some t;
  clear = λ t. (Ok tt, t);
  put = λ t _ _. (Ok tt, t);
  remove = λ t _. (Ok tt, t);
  least = λ t. (Ok (Some t), t);
}
