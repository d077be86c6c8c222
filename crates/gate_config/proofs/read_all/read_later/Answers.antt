use Rattle.gate_config.proofs.Documents.{documents_fault, documents_more, documents_none}
use Rattle.gate_config.proofs.read_all.read_later.Goals as goal

pub loop-place-init : goal.loop-place-init
loop-place-init c = rw c.in_ok-later.ensures.items documents_none

pub loop-place-preserved : goal.loop-place-preserved
loop-place-preserved c =
    rw c.in_ok-push-in-Ok.ensures.items
    (documents_more c.index-documents-place.result c.in-Ok.config c.loop-place-test.true c.index-documents-place.is c.loop-place.invariant
    (rw c.as_slice.ensures.value at c.in-Ok.ensures.passed) (rw c.as_slice.ensures.value at c.in-Ok.ensures.read))

pub returns-in-Err-clause-fault : goal.returns-in-Err-clause-fault
returns-in-Err-clause-fault c =
    rw c.of_document.ensures
    (documents_fault c.index-documents-place.result c.in-Err.fault c.loop-place-test.true c.index-documents-place.is c.loop-place.invariant
    (rw c.as_slice.ensures.value at c.in-Err.ensures.fault))
