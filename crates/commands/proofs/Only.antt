-- No second outcome of `parse`: two commands that ask for the same are one. Assumes nothing.
use Rattle.std.proofs.Common.{◌≡◌, refl, sym, ap, ◌∙◌, Result, Ok, Err}
use Rattle.lists.proofs.Only.{only_read}
use Rattle.refusal.specs.declared.Refusal.{Refusal}
use Rattle.refusal.proofs.Numbers.{number_one_to_one}
use Rattle.table.specs.Steps.{c_lookup, c_insert, c_remove, c_detach, c_reattach}
use Rattle.commands.specs.declared.Command.{Command}
use Rattle.commands.specs.declared.Command.TheVariants.{Insert, Get, Remove, Detach, Reattach, Len}
use Rattle.commands.specs.Lines.{Asked, asks, asked_of}

-- the command that asks for this; what no command asks for gives the last
abbrev command_of : Asked → Command
command_of (asks (c_insert x)) = Insert x
command_of (asks (c_lookup k)) = Get k
command_of (asks (c_remove k)) = Remove k
command_of (asks (c_detach k)) = Detach k
command_of (asks (c_reattach k x)) = Reattach k x
command_of _ = Len

found_again : (c : Command) → command_of (asked_of (Ok c)) ≡ c
found_again (Insert x) = refl
found_again (Get k) = refl
found_again (Remove k) = refl
found_again (Detach k) = refl
found_again (Reattach k x) = refl
found_again Len = refl

-- no command asks for a refusal
no_refusal : (c : Command) (q : Refusal) → asked_of (Ok c) ≡ asked_of (Err q) → ◌≡◌ {A = Result Command Refusal} (Ok c) (Err q)
no_refusal (Insert x) q e = cc
no_refusal (Get k) q e = cc
no_refusal (Remove k) q e = cc
no_refusal (Detach k) q e = cc
no_refusal (Reattach k x) q e = cc
no_refusal Len q e = cc

pub command_one_to_one : (c d : Result Command Refusal) → asked_of c ≡ asked_of d → c ≡ d
command_one_to_one (Ok c) (Ok d) e = ap Ok (sym (found_again c) ∙ ap command_of e ∙ found_again d)
command_one_to_one (Ok c) (Err q) e = no_refusal c q e
command_one_to_one (Err r) (Ok d) e = sym (no_refusal d r (sym e))
command_one_to_one (Err r) (Err q) e = ap Err (number_one_to_one r q (cc))

pub parse_only : {a : Asked} {c d : Result Command Refusal} → asked_of c ≡ a → asked_of d ≡ a → c ≡ d
parse_only = only_read asked_of command_one_to_one
