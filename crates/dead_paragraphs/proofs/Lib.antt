-- flags that are off
mod Missing
