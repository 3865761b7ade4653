use Rattle.stored_laws.proofs.Law.{a_held_image}
use Rattle.stored_laws.proofs.held.a_held_image_is_an_image.Goals as goal

pub returns-clause-accepted : goal.returns-clause-accepted
returns-clause-accepted c = λ file image start e none short small. (a_held_image file image start e none short small).accepted

pub returns-clause-entry : goal.returns-clause-entry
returns-clause-entry c = λ file image start e none short small. (a_held_image file image start e none short small).entry

pub returns-clause-bytes : goal.returns-clause-bytes
returns-clause-bytes c = λ file image start e none short small. (a_held_image file image start e none short small).bytes

pub returns-clause-layout : goal.returns-clause-layout
returns-clause-layout c = λ file image start e none short small. (a_held_image file image start e none short small).layout

pub returns-clause-keyed : goal.returns-clause-keyed
returns-clause-keyed c = λ file image start e none short small. (a_held_image file image start e none short small).keyed

pub returns-clause-text : goal.returns-clause-text
returns-clause-text c = λ file image start e none short small. (a_held_image file image start e none short small).text
