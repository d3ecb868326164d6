-- `write_text` writes an answer's text by its kind; the room that it asks for is enough.
use Rattle.std.proofs.Common.{◌≡◌, Ok, arith, rules}
use Rattle.script_look.specs.declared.Answer.TheVariants.{Key, Value, Done, Count}
use Rattle.script_say.proofs.Says.{text-key, text-value, text-count, text-done, text-refused}
use Rattle.script_say.proofs.write_text.Goals as goal

pub returns-in-Ok-Key : goal.returns-in-Ok-Key
returns-in-Ok-Key c =
    let e : c.args.answer ≡ Ok (Key c.in-Ok-Key.k) = search rules in text-key _ _ e c.from_ffi.ensures c.write_key.ensures

pub returns-in-Ok-Value : goal.returns-in-Ok-Value
returns-in-Ok-Value c =
    let e : c.args.answer ≡ Ok (Value c.in-Ok-Value.x) = search rules in text-value _ _ e (search rules) c.write_decimal.ensures

pub returns-in-Ok-Done : goal.returns-in-Ok-Done
returns-in-Ok-Done c = let e : c.args.answer ≡ Ok Done = search rules in text-done _ _ e c.write_bytes.ensures

pub returns-in-Ok-Count : goal.returns-in-Ok-Count
returns-in-Ok-Count c =
    let e : c.args.answer ≡ Ok (Count c.in-Ok-Count.n) = search rules in
    text-count _ _ e (omega arith) c.write_decimal-in-Ok-Count.ensures

pub returns-in-Err : goal.returns-in-Err
returns-in-Err c = text-refused _ _ c.in-Err.is c.write_refusal.ensures
