-- What follows where a call went well.
use Rattle.std.proofs.Common.{IfOk, OnOk, Result, Ok, Err}

pub if_ok : {T E : Type 0} (r : Result T E) (P Q : T → Type 0) → ((x : T) → P x → Q x) → IfOk r P → IfOk r Q
if_ok (Ok x) P Q f h = f x h
if_ok (Err e) P Q f h = tt

-- what holds whether it did or not
pub anyway : {T E : Type 0} (r : Result T E) (P : Type 0) → P → OnOk r P
anyway (Ok x) P h = h
anyway (Err e) P h = tt
