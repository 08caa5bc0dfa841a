-- HOW A CALL ON A CARD OPENS: the card's check, and then the form of its vectors, one or a list. Assumes nothing.
use Rattle.answers.specs.Answers.{Answer}
use Rattle.answers.specs.Calls.{Lent, opened}
use Rattle.form.specs.Check.{lent_check}
use Rattle.testvectors.specs.Vectors.{vector_verdict, list_verdict, lent_form}

abbrev pub opened_vector : Lent → Lent → Answer
opened_vector card v = opened (lent_check card) (λ c. lent_form vector_verdict c.inputs v)

abbrev pub opened_list : Lent → Lent → Answer
opened_list card v = opened (lent_check card) (λ c. lent_form list_verdict c.inputs v)
